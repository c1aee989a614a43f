pub mod Refusal
pub mod Promise
pub mod Initial
pub mod Streams
