pub mod Looks
pub mod Turns
pub mod Made
pub mod Counts
pub mod Grown
pub mod Prints
pub mod Exact
