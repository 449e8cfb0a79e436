pub mod Replies
pub mod Codes
pub mod Windows
