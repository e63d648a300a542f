pub mod Color
pub mod Blending
pub mod Canvas
pub mod Lanes
pub mod Stretches
pub mod White
