pub mod Four
pub mod Digits
pub mod Channels
pub mod Readings
pub mod Decoding
