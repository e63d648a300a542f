pub mod Made
pub mod Counts
pub mod Bands
pub mod Unlisted
pub mod Layers
pub mod FootLemmas
pub mod Named
pub mod Painting
