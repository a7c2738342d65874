pub mod Link
pub mod Answers
pub mod Paper
