pub mod Prefixes
pub mod Leaving
pub mod Due
