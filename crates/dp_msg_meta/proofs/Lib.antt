pub mod FieldLaws
pub mod Forms
pub mod Comparing
