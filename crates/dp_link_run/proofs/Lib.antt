pub mod Sending
pub mod FlagLemmas
pub mod LinkLemmas
