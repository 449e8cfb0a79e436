pub mod Units
pub mod Moments
pub mod Bins
pub mod Statistics
pub mod Windows
pub mod Bounds
pub mod Ticks
