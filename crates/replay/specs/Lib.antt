-- What a right record is, and the tally of a file of them.
pub mod Operations
pub mod Replay
