pub mod Tiles
pub mod Snapshot
pub mod Spelled
pub mod Resets
