pub mod Replays
pub mod Counts
