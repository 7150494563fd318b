pub mod Adjacency
pub mod Steps
pub mod Search
