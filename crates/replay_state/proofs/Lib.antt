pub mod Stored
pub mod Ending
pub mod Unique
