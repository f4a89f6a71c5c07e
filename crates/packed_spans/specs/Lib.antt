pub mod Packed
pub mod Complete
pub mod Tables
pub mod Told
pub mod Marks
pub mod Headers
pub mod Nodes
