pub mod Alteration
pub mod GreyOrder
pub mod Reordering
pub mod Beside
pub mod Echo
pub mod Sixth
pub mod Copol
pub mod RowPosition
