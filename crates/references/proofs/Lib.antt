pub mod Loops
pub mod Lists
pub mod Acting
pub mod PairRows
pub mod Links
