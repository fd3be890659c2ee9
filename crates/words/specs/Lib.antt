pub mod Pieces
pub mod Numbers
pub mod Names
pub mod Shorts
