pub mod Deciding
pub mod LookupLaws
pub mod Locating
pub mod RowEnding
pub mod Issuing
pub mod RowIssuing
