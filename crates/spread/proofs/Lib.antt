-- Laws that the proofs here and in the crates above cite.
pub mod Lifted
pub mod RaisedSinks
pub mod Spreads
