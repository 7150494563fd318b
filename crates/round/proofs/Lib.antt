-- Laws that the proofs here cite.
pub mod InPlace
pub mod Next
