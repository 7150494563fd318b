pub mod Clear
pub mod Marks
