pub mod Drawn
pub mod Edits
