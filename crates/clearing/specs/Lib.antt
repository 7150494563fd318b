pub mod Kept
pub mod Largest
