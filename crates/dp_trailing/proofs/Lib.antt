pub mod TrailingLemmas
