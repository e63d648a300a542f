pub mod Bands
pub mod Composed
pub mod Prefixes
pub mod Rows
