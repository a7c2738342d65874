pub mod Bounds
pub mod Small
pub mod Written
pub mod Spelt
pub mod Arms
pub mod Finding
