pub mod StandLemmas
pub mod RunLemmas
pub mod DueLemmas
pub mod ReadyLemmas
pub mod ReplayLemmas
