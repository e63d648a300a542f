pub mod Ops
pub mod Drawn
pub mod Waits
pub mod Filed
pub mod Plain
pub mod Puts
