pub mod Windows
pub mod Ready
pub mod Scenes
pub mod Work
pub mod Answers
