pub mod SettlesFresh
