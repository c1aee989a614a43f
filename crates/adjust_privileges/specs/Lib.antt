pub mod PrivilegeEntries
