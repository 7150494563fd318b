-- Laws of some rows of a table, as a table.
pub mod Rows
pub mod Tables
pub mod Copies
