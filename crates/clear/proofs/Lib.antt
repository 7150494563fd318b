-- Laws of the call, and of the loops that mark.
pub mod Checks
pub mod Marking
pub mod Passing
pub mod Answers
