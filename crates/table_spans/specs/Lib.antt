pub mod Span
pub mod Bank
