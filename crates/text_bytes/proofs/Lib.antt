pub mod Ranges
pub mod Scans
pub mod Flows
pub mod Parts
pub mod Wording
pub mod Ahead
pub mod Shifts
