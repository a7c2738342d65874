pub mod Said
pub mod Holds
pub mod Kept
pub mod Worked
