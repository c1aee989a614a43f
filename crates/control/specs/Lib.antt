pub mod Control
pub mod Counters
pub mod Stations
pub mod Pairs
pub mod References
pub mod Sids
