pub mod Levels
pub mod Near
pub mod Farey
pub mod Places
pub mod Laws
pub mod Colours
