-- The laws that `Settled` and `Demand` and the crates above cite.
pub mod Top
pub mod Kept
pub mod States
pub mod Settle
pub mod FirstAnswering
pub mod Join
pub mod Gather
pub mod Map
pub mod Loop
pub mod SameEdges
pub mod Keys
