pub mod Signals
pub mod Takes
