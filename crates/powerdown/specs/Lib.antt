pub mod Design
pub mod Laws
pub mod Rounds
