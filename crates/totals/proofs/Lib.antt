-- Laws of months: of one that is read piece by piece, and of two that are added up.
pub mod Reading
pub mod Adding
