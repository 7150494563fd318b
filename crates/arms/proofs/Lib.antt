-- What the arms read of a profile.
pub mod Profiles
