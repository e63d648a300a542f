pub mod Limits
pub mod Payloads
pub mod Equality
pub mod FieldLaws
