pub mod Views
pub mod Calls
pub mod Runs
pub mod OfQ
pub mod Forbids
pub mod Promise
