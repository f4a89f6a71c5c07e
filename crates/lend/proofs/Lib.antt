pub mod Fractions
pub mod Values
pub mod Begins
pub mod Shown
pub mod Holds
