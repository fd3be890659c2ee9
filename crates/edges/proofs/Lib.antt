pub mod Writes
pub mod Room
pub mod Allows
