pub mod Shifts
pub mod Values
pub mod Stretches
pub mod Sames
pub mod Worked
