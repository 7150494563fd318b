-- Laws of numbers and lines as text, and of their writing.
pub mod Decimal
pub mod Lengths
pub mod Putting
mod Examples
