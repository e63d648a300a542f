pub mod Messages
pub mod Properties
pub mod Decoded
pub mod Heard
pub mod Equality
