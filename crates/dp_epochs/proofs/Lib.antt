pub mod Interleaving
pub mod OpeningLemmas
pub mod OpenConnections
pub mod EffectLemmas
pub mod JoinLemmas
pub mod LawLemmas
pub mod PermittedLemmas
pub mod RowLemmas
