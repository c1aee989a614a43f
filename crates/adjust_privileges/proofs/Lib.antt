pub mod PrivilegeEntries
pub mod PrivilegesEnding
