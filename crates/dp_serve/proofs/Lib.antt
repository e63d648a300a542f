pub mod Sending
pub mod LinkLemmas
pub mod ServeLemmas
pub mod ClosingLemmas
