pub mod GroupBits
pub mod Finding
pub mod Laws
pub mod Changing
pub mod NewRow
