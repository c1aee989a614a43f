pub mod Framing
pub mod Joining
pub mod Feeding
