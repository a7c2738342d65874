pub mod Hex
pub mod Hsl
pub mod Color
pub mod Answer
pub mod Paper
