pub mod Reach
pub mod Answers
pub mod States
pub mod Walks
pub mod Asked
pub mod Taken
pub mod Knowing
