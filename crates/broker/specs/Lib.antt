pub mod Edition
pub mod Noted
pub mod WholeRun
