pub mod Tops
pub mod Lays
pub mod Works
pub mod Piles
