pub mod Cuts
pub mod Truth
pub mod Loops
pub mod Counts
