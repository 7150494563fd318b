pub mod Signed
pub mod Places
