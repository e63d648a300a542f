pub mod Due
pub mod Rollback
pub mod Moves
pub mod Replays
