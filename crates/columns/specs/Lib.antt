-- Lists as columns and rows, searches by index, and words as bytes.
pub mod Column
pub mod First
pub mod Signal
pub mod Ascii
