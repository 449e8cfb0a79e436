pub mod Extremes
pub mod Gathered
pub mod Passes
