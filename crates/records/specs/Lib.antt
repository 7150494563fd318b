-- The parts of a record.
pub mod Record
