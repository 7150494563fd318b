-- Laws of redrawn tables.
pub mod Rows
pub mod Redrawn
pub mod Accepted
pub mod EitherOrder
pub mod Bulbs
