pub mod ReachedLive
pub mod Unique
pub mod Whole
