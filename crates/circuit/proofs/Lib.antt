-- Laws that the proofs here and in the crates above cite.
pub mod Shape
pub mod Upper
pub mod Ways
pub mod Ends
