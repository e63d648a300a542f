pub mod Outcomes
pub mod Scripts
pub mod Partings
pub mod Leaves
pub mod Runs
