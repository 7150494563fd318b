pub mod Classes
pub mod Arms
