pub mod Fields
pub mod Payloads
pub mod Equality
pub mod FieldLaws
