pub mod Circuit
pub mod Sinks
