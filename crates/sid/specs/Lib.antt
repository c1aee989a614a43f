pub mod Tests
pub mod Reading
pub mod Finding
pub mod Numbers
