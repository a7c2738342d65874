pub mod Shifts
pub mod Values
pub mod Sames
pub mod Written
pub mod Worked
