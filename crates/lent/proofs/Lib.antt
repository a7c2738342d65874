pub mod Pastes
pub mod Fronts
