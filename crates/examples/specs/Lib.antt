pub mod Examples
pub mod Shut
