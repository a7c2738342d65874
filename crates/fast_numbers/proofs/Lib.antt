pub mod Steps
pub mod Plain
pub mod Told
pub mod Alone
