pub mod Meaning
pub mod Row
pub mod NewRow
