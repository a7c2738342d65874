pub mod Octets
pub mod Walks
pub mod Counting
pub mod Trimming
pub mod Cuts
