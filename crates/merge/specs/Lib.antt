pub mod Merge
pub mod Holds
pub mod Parts
