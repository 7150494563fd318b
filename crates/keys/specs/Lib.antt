pub mod Pass
pub mod Rounds
pub mod Search
pub mod Settle
