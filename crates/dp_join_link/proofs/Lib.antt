pub mod Given
pub mod Reading
pub mod Prefixes
