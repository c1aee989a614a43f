pub mod Parts
pub mod Dropping
pub mod Reconnecting
pub mod Starting
