pub mod Groups
pub mod Telling
pub mod Whole
