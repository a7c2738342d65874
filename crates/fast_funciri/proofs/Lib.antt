pub mod Runs
pub mod Bare
pub mod Links
