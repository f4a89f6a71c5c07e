pub mod Orders
pub mod Prefixes
pub mod Expansions
pub mod Walks
pub mod Traces
