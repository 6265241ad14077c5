pub mod Gate
pub mod Fits
pub mod Unique
pub mod Stray
pub mod Separate
