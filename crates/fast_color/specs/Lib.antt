pub mod Told
pub mod Digits
pub mod Empty
