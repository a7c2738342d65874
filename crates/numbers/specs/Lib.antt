pub mod Digits
pub mod Powers
pub mod Moves
pub mod Number
pub mod Held
pub mod Decimal
