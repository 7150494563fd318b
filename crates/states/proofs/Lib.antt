pub mod Powers
pub mod Parts
