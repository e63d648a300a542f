pub mod SessionLemmas
pub mod ResumeLemmas
