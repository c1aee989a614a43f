pub mod Classes
pub mod ClassLists
pub mod Answers
