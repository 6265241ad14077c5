pub mod ReachedLive
pub mod Whole
