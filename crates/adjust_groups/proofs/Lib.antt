pub mod GroupReport
pub mod GroupEntries
pub mod GroupsEnding
