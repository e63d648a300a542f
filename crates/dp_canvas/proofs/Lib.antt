pub mod Batches
pub mod DeferredLayers
pub mod Grids
pub mod Shown
pub mod Settled
