pub mod Numbers
pub mod Links
pub mod Fits
