pub mod Bounds
pub mod Watching
