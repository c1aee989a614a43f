pub mod Steps
pub mod Holding
pub mod Beginning
