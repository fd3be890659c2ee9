pub mod Worked
pub mod Instances
pub mod Held
