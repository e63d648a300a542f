pub mod Follows
pub mod RoundKinds
pub mod Schedules
pub mod Sums
pub mod Texts
pub mod Uplinks
