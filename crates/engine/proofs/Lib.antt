pub mod Banks
pub mod Words
pub mod Ones
pub mod Targets
pub mod Uses
