pub mod Delivered
