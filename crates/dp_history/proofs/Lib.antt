pub mod MadeLemmas
pub mod KeptLemmas
pub mod PageLemmas
pub mod Ranges
pub mod ItemLemmas
