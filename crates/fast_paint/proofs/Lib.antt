pub mod Admits
pub mod Answers
pub mod Links
pub mod Colors
pub mod Trims
pub mod Texts
pub mod Visible
pub mod Numbers
