-- Laws of the feeder list.
pub mod Rising
pub mod Positions
pub mod Around
pub mod Listed
pub mod Replacing
pub mod Updated
pub mod Bulbs
pub mod Switched
