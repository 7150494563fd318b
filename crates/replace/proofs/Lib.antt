-- Laws of the tests of a replacement, and of the call.
pub mod Checks
pub mod Answers
