pub mod Passes
pub mod Search
