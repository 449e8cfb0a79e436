pub mod Palette
pub mod Floors
