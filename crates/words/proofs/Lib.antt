-- Laws of numbers as bytes.
pub mod FourBytes
