pub mod Emitted
pub mod Devices
pub mod Answers
pub mod Demand
pub mod Torches
pub mod Bulbs
