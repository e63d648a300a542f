pub mod Grids
pub mod Reading
pub mod Movements
