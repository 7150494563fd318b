-- Settling over any network: what it is, and what holds of it.
pub mod Levels
pub mod Network
pub mod Settled
pub mod Compare
pub mod Computing
pub mod Demand
pub mod Laws
