pub mod PrefixSteps
pub mod Rooms
pub mod PlaceTables
pub mod SplitParts
