pub mod Moves
pub mod Handed
pub mod Joined
pub mod Whole
