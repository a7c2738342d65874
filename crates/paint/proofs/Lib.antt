pub mod Values
pub mod Trims
pub mod Stretches
pub mod Swallowed
pub mod Worked
