pub mod StrictColors
pub mod HouseRules
