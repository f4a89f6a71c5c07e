pub mod Affected
pub mod Changes
pub mod Rows
pub mod Modifications
pub mod Parts
pub mod Contents
