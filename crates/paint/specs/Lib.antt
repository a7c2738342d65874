pub mod Moves
pub mod Reading
pub mod Answers
pub mod Paper
