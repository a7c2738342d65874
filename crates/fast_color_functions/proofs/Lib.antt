pub mod Openings
pub mod Items
pub mod Tellings
