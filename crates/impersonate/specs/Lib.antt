pub mod Impersonate
