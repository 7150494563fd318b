pub mod Finding
pub mod Lent
