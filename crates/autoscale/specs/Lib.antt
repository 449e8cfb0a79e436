pub mod Painted
pub mod Bands
