pub mod Order
pub mod Pace
pub mod Whole
