pub mod Entries
pub mod BadEntries
