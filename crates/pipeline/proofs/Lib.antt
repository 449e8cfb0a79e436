pub mod Apart
pub mod Tests
pub mod Windowed
pub mod Accepted
pub mod GreyWindow
pub mod Greys
pub mod PictureWindow
pub mod Pictures
