pub mod Lines
pub mod Texts
pub mod Forms
pub mod Expressions
pub mod Commands
pub mod Scripts
pub mod Seen
