pub mod Called
pub mod Reports
pub mod Shown
pub mod Progress
