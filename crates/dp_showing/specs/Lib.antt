pub mod Showing
pub mod Resets
