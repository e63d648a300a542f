pub mod Puts
pub mod Resuming
