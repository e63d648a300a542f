pub mod AreaLemmas
pub mod FootLemmas
pub mod Moving
pub mod Read
pub mod Resized
pub mod RowLemmas
pub mod Shown
pub mod Tiles
