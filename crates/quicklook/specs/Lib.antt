pub mod Codes
pub mod Numbers
pub mod Calls
