pub mod StreamsKept
pub mod PendingRows
pub mod Accepting
pub mod Freeing
pub mod Feeding
