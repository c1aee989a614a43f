pub mod Tests
pub mod Meaning
