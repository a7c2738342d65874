pub mod Orders
pub mod Tables
pub mod Naming
pub mod Searches
pub mod Backs
pub mod Firsts
