pub mod Shapes
pub mod Traits
