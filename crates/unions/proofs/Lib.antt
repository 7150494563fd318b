-- Laws of the rows of two tables in one.
pub mod Rising
pub mod Rows
pub mod Steps
pub mod Counting
pub mod Writing
pub mod Members
pub mod Tables
