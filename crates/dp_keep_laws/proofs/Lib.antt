pub mod LaterLemmas
pub mod SuffixLemmas
pub mod Depths
pub mod Openings
pub mod LeftOut
pub mod Kept
pub mod Cuts
pub mod WorkedKeep
