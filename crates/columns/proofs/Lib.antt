-- Laws that the proofs of the crates above cite.
pub mod Truth
pub mod Members
pub mod Columns
pub mod Parts
pub mod First
pub mod Indices
