-- Laws of accepted tables, and of answers.
pub mod Passed
pub mod Lent
pub mod Accepted
pub mod Again
pub mod Gives
pub mod Tells
pub mod Bulbs
pub mod Overdriven
