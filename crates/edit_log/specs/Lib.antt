pub use Rattle.edit_entry.specs.Entries
pub use Rattle.edit_entry.specs.BadEntries as Refusals
pub mod Symbols
pub mod History
pub mod Live
pub mod Verdict
pub mod Lookups
pub mod Touches
pub mod Facts
pub mod Tokens
pub mod Replicas
pub mod Sizes
pub mod Lists
pub mod Rows
pub mod Kept
pub mod Agreement
