pub mod Faults
pub mod Streams
pub mod Memory
pub mod Adapters
pub mod Limits
pub mod Pieces
