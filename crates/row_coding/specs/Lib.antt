pub mod Words
pub mod Conditions
pub mod Rows
pub mod Reading
