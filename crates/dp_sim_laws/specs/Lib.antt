pub mod OwnSteps
pub mod Tally
pub mod Spelled
pub mod Resets
