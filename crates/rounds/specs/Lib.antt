pub mod Prepared
pub mod Outcome
