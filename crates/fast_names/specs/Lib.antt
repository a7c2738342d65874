pub mod Named
pub mod Letters
