pub mod Passes
pub mod Filling
pub mod FindBin
pub mod Summaries
pub mod Curves
pub mod Statistics
pub mod Counting
pub mod Extremes
