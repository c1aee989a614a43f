pub mod Program
pub mod Blocks
pub mod Input
pub mod Turns
pub mod AsCalls
