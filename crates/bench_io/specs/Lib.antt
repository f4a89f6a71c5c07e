pub mod Adapted
pub mod Faults
pub mod Known
pub mod Supply
pub mod Turns
