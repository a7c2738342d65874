pub mod Units
pub mod Told
pub mod Edges
