pub mod Span
pub mod Tables
pub mod Known
pub mod Cuts
pub mod Parts
pub mod Nodes
