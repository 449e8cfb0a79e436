pub mod Round
pub mod Correct
