pub mod Gathered
pub mod Kept
pub mod Taken
