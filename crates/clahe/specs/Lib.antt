pub mod Work
pub mod Band
pub mod Within
pub mod Paint
pub mod Sides
pub mod Limits
