pub mod Supports
pub mod Rows
