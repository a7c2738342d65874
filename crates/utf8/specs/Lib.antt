pub mod Characters
pub mod Moves
pub mod Blanks
