pub mod Links
pub mod Talking
