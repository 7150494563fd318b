-- Laws of a settling in lent columns, and of its answer.
pub mod Lending
pub mod Answers
