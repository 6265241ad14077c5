pub mod Bank
pub mod Target
