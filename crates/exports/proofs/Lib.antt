pub mod Going
pub mod Single
pub mod Packed
