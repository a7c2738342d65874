pub mod Bytes
pub mod Scan
pub mod Flow
pub mod Words
pub mod Moves
