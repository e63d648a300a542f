pub mod Schedule
pub mod Draws
pub mod Progress
