pub mod Walks
pub mod Fair
pub mod Parts
pub mod Going
