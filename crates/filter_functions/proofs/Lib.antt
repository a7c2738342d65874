pub mod Shifts
pub mod Others
pub mod Values
pub mod Sames
pub mod Kept
pub mod Growing
