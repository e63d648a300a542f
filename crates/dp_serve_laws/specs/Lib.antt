pub mod Acts
pub mod Reported
pub mod Stored
