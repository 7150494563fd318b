pub mod Feeders
pub mod Replaced
pub mod Around
