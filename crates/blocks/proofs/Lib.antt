pub mod Values
pub mod Bulbs
