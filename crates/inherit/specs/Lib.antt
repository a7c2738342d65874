pub mod Rule
pub mod Paper
