pub mod Unique
pub mod Deeds
pub mod Refused
pub mod Records
pub mod Shown
pub mod Cases
