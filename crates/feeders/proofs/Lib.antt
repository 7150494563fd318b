-- Laws of the loop that writes a row's entries, and of the call.
pub mod Fed
pub mod Checks
pub mod Answers
