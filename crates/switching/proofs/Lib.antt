-- Laws of switched tables.
pub mod Switched
