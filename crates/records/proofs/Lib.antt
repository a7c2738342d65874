pub mod Bits
pub mod Stores
pub mod Laid
pub mod Shadows
pub mod Wholes
pub mod Listing
pub mod Rows
pub mod States
