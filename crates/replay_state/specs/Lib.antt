pub mod Held
pub mod Ended
