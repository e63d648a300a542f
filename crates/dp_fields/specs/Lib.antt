pub mod Fields
pub mod Reading
pub mod FieldLaws
pub mod Wholes
pub mod Sequences
