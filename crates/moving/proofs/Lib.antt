pub mod Moved
pub mod Offsets
pub mod Order
pub mod Words
