pub mod Columns
pub mod Agree
