pub mod Told
pub mod Links
pub mod Visible
pub mod Empty
