pub mod DefaultDacl
pub mod Defaults
pub mod Scope
