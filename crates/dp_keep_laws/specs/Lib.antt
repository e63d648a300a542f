pub mod Suffixes
pub mod Keeping
pub mod Worked
