pub mod Ranges
pub mod Spanned
