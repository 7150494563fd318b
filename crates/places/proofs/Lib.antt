pub mod Signs
pub mod Order
pub mod Steps
pub mod Near
