pub mod Passing
pub mod Searching
pub mod Settled
