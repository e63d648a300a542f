pub mod Canvas
pub mod Resizes
pub mod Rows
pub mod Holds
pub mod Pixels
pub mod Commuting
pub mod Runs
