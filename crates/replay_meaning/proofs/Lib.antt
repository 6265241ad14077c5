pub mod Prefixes
pub mod Pieces
pub mod Lines
pub mod Counts
pub mod Cases
pub mod Separate
