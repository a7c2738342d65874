pub mod Units
pub mod Shifts
pub mod Values
pub mod Growing
pub mod Sames
pub mod Written
pub mod Worked
