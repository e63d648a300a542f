pub mod Exchanges
pub mod World
pub mod Report
pub mod Due
pub mod Invariant
pub mod Moves
pub mod Headline
