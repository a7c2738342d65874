pub mod Names
pub mod Laws
pub mod Shaded
pub mod Rows
