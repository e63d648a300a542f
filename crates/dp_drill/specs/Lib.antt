pub mod Flow
pub mod Leaves
pub mod Schedule
pub mod Summary
