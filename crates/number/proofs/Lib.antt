pub mod Over
pub mod Reading
pub mod Fields
