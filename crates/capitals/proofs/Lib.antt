pub mod Cases
pub mod Admitted
pub mod Numbers
pub mod Colours
pub mod Shaped
pub mod Proved
pub mod Worked
