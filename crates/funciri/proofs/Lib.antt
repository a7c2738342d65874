pub mod Quotes
pub mod Spans
pub mod Shifts
pub mod Ends
pub mod Worked
