pub mod Back
pub mod Cuts
pub mod Decimals
pub mod Written
