pub mod Keywords
pub mod Look
pub mod Search
pub mod Order
pub mod Back
