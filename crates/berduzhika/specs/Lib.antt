-- What the exported functions promise.
pub mod Returned
pub mod Calls
