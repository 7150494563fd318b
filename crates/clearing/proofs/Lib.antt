-- Laws of clearing: which rows are left, what is kept, and in which pass each other row went.
pub mod Steps
pub mod Named
pub mod Left
pub mod Supported
pub mod Going
pub mod Clearing
pub mod Bulbs
