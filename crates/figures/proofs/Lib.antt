-- Laws of counting and of sums, which the proofs of several functions and the crates above cite; and what the figures add up to.
pub mod Counting
pub mod Sums
pub mod Whole
