pub mod Told
pub mod Leads
