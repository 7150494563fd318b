pub mod Many
pub mod States
pub mod Valid
pub mod Running
pub mod Bulbs
