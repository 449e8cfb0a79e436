pub mod Thresholds
pub mod Curved
pub mod Gammas
