pub mod LinkEnding
pub mod LinkedEnding
