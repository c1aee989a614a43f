pub mod NewGroups
pub mod PackedGroups
pub mod Create
pub mod PackedCreate
