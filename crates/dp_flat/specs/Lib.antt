pub mod Bands
pub mod Composed
pub mod Texts
pub mod Tones
pub mod Jobs
