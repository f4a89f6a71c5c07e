pub mod Parts
pub mod Loans
