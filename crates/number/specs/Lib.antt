pub mod Over
pub mod Answer
pub mod Rest
pub mod Meaning
pub mod Reader
