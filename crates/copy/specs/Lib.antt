pub mod Numbers
pub mod Copies
pub mod Duplicate
pub mod DeniedGroups
pub mod Restricting
pub mod Asked
pub mod Restrict
