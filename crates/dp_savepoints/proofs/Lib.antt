pub mod KeptLemmas
pub mod HistoryLemmas
pub mod RunLemmas
