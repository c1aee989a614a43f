pub mod Carried
pub mod EntriesCarried
pub mod Lookup
pub mod Located
pub mod Ending
pub mod Issue
