pub mod Classes
pub mod Refusal
pub mod Class
pub mod Answer
