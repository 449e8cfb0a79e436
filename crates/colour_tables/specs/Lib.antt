pub mod Tables
pub mod Colours
