pub mod Names
pub mod Pieces
pub mod Spelling
pub mod Canonical
pub mod Limits
pub mod Reading
pub mod Sameness
