pub mod Union
pub mod Walk
