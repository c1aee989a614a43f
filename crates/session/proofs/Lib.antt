pub mod Reading
pub mod Later
pub mod Blocks
pub mod Saying
pub mod Feeding
pub mod Turning
pub mod AsCalls
