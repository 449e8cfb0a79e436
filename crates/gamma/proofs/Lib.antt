pub mod Powers
pub mod Sills
pub mod Laws
pub mod Cells
pub mod Gammas
pub mod Curved
