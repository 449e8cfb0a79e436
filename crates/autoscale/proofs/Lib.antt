pub mod Painting
pub mod Painted
pub mod Unread
pub mod Windows
