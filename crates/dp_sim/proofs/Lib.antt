pub mod Marks
pub mod LawLemmas
pub mod Moves
pub mod LawWorlds
pub mod LawForbidden
