pub mod Moments
pub mod Counters
pub mod Ends
pub mod Limits
pub mod Leaves
