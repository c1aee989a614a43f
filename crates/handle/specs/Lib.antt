pub mod Meaning
pub mod First
pub mod Words
pub mod Loaded
