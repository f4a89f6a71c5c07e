pub mod Lines
pub mod TallyLines
pub mod Replies
pub mod Known
pub mod Blocks
