pub mod Rules
pub mod Refusals
pub mod Over
pub mod Certain
pub mod Converter
pub mod Shows
pub mod Same
pub mod Stack
