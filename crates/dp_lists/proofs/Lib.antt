pub mod Options
pub mod Numbered
