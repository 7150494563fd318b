-- What the traits read of a profile.
pub mod Profiles
