pub mod DefaultDacl
pub mod DefaultFields
pub mod DefaultsEnding
pub mod ScopeEnding
