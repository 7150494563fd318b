-- Laws of good rows and good profiles.
pub mod Fields
pub mod Profiles
pub mod Rows
pub mod Offset
