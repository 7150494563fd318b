-- The tables of the book's tests, and what they answer.
pub mod Tables
pub mod Test11
