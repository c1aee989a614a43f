pub mod Steps
pub mod Lists
pub mod Pairs
pub mod Folding
pub mod Passes
pub mod Sids
pub mod Skipping
pub mod Bodies
