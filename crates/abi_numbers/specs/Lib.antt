-- The numbers of a request, and the one number of an answer.
pub mod Numbers
pub mod Code
