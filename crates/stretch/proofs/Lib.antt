pub mod Loops
pub mod Calls
pub mod Identity
pub mod Rising
