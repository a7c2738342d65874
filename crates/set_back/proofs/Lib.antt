pub mod Digits
pub mod Readings
pub mod Settling
pub mod Words
pub mod Back
