pub mod Spellings
pub mod Splittings
