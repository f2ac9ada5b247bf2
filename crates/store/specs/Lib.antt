pub mod World
pub mod Fits
pub mod Spares
