pub mod Cadence
