-- Laws of a run and of the length of its text.
pub mod Run
pub mod Length
mod Examples
