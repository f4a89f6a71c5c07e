pub mod Staying
pub mod ComingBack
