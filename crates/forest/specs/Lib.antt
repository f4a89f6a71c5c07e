pub mod Derivation
pub mod Orders
pub mod Nodes
pub mod SplitStores
pub mod Forests
pub mod Equality
pub mod Distinct
pub mod Numbers
