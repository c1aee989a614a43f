pub mod Join
pub mod Meaning
