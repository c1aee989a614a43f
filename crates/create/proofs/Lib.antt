pub mod NewGroups
pub mod PackedGroups
pub mod CreateEnding
pub mod PackedEnding
