pub mod EntryBytes
pub mod EntryPacking
pub mod EntryLaws
