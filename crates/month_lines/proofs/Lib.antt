-- What the output for a whole input is.
pub mod Output
