pub mod Drawn
pub mod Puts
pub mod Ops
pub mod Lists
