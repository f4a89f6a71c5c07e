pub mod Words
pub mod Pieces
pub mod Serving
pub mod Recorded
pub mod Benches
pub mod Output
pub mod Runs
pub mod Ends
