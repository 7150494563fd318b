pub mod Spreading
pub mod Mapped
