-- Laws of the loop over the rows, and what the answer tells.
pub mod Written
pub mod Answers
