pub mod Faults
pub mod Nodes
pub mod Format
pub mod Tables
pub mod Trees
pub mod Printed
