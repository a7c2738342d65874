pub mod Near
pub mod Empty
pub mod Told
pub mod Eight
pub mod Starts
pub mod Hexes
pub mod Names
