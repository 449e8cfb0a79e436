pub mod Bounds
pub mod Ticks
