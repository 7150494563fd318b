-- What a right record of a call is.
pub mod Calls
