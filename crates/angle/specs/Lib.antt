pub mod Moves
pub mod Angles
pub mod Paper
