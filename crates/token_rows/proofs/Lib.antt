pub mod Same
pub mod Pairs
pub mod Groups
pub mod TokenRow
