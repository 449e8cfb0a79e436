pub mod Bands
pub mod Passes
pub mod Alteration
