pub mod Joining
pub mod Steps
pub mod Greetings
pub mod Partings
