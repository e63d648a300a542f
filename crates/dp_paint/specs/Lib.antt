pub mod Painting
pub mod Layers
pub mod Jobs
