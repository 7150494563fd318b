-- What a right answer is, of the parts of a record and of the record.
pub mod Answers
pub mod Right
