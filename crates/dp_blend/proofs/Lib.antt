pub mod Canvas
pub mod LaneLemmas
mod Least
pub mod Pixels
pub mod Rects
pub mod Products
pub mod RowLemmas
pub mod TwoPixels
pub mod RowBytes
pub mod Parts
pub mod Written
