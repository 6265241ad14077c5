-- What the controller's methods promise.
pub mod Answered
