pub mod Bodies
pub mod Nests
pub mod Flat
pub mod Edges
pub mod Certain
pub mod Ordered
