pub mod Networks
pub mod Profiles
pub mod Torches
