-- Laws that the proofs of the crates above cite, and what is read of a stream that was written.
pub mod Streams
pub mod Written
