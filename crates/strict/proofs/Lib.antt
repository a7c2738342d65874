pub mod Answers
pub mod Feeds
pub mod Furthest
pub mod Shaped
pub mod Worked
pub mod Asking
