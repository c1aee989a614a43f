pub mod GroupEntries
