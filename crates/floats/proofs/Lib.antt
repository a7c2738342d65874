pub mod Rounding
pub mod Narrowing
pub mod Channels
pub mod Bounds
pub mod Turns
pub mod Library
pub mod Worked
