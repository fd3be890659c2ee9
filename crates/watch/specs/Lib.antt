pub mod Edges
pub mod Phases
pub mod Watched
pub mod Tally
