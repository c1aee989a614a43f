pub mod Promise
pub mod Accepted
