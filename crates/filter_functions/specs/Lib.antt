pub mod Moves
pub mod Values
pub mod Shadow
pub mod Filters
pub mod Paper
pub mod Lists
