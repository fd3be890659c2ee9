pub mod Edges
pub mod Lines
pub mod Room
pub mod Follows
pub mod Traces
pub mod Laws
