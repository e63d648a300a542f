pub mod FrameLemmas
pub mod LogLemmas
