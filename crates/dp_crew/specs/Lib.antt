pub mod Runs
pub mod Parts
pub mod Jobs
pub mod Gathering
