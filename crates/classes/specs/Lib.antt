pub mod Class
pub mod Towards
