pub mod Sections
pub mod SectionRows
pub mod StationRows
pub mod PairRows
pub mod Referring
pub mod Beginning
pub mod SidSection
