pub mod Pictures
pub mod Reading
pub mod Ways
