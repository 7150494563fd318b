pub mod Subtable
