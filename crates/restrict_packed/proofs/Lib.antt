pub mod ReadSoFar
pub mod Gathering
pub mod Keeping
pub mod Taking
