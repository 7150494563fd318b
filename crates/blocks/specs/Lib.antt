pub mod Kind
pub mod Profile
