pub mod Records
pub mod Many
