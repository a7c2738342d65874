pub mod Lengths
pub mod Paper
pub mod Lists
