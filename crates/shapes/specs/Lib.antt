pub mod Walk
pub mod Consume
