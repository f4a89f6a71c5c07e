pub mod Marks
pub mod Patterns
pub mod After
pub mod Expansion
pub mod Winners
pub mod Sameness
pub mod Candidates
