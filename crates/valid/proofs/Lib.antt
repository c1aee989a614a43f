pub mod StationRow
pub mod Whole
pub mod Sizes
