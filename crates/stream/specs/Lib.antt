pub mod Faults
pub mod Ends
pub mod Refusals
pub mod Moves
pub mod Paper
pub mod Steps
