pub mod Parts
pub mod Formed
pub mod HandleFacts
pub mod ReleaseFacts
pub mod TokenCalls
