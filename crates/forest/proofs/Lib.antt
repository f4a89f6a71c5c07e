pub mod Ascending
pub mod Derivations
pub mod Orderings
pub mod Searches
pub mod Counting
pub mod OneForest
