pub mod Lists
pub mod Chains
pub mod Making
pub mod Puts
pub mod Layers
pub mod Snapshots
pub mod Keeping
pub mod Spelling
