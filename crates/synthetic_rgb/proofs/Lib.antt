pub mod Rules
pub mod Painted
pub mod Counted
pub mod Floors
