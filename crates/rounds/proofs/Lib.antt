pub mod Rounds
pub mod Lending
