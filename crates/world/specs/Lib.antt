pub mod Rows
pub mod Find
