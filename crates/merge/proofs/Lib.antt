pub mod Checks
pub mod Moved
pub mod MergedTables
pub mod Refusals
pub mod Only
pub mod Answers
