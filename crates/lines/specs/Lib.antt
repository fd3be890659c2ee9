pub mod Flaws
pub mod Lines
