pub mod Rest
pub mod Slots
pub mod Words
pub mod Lent
