pub mod Alone
pub mod Doing
pub mod Leaving
pub mod Starting
pub mod OneOutcome
pub mod EachOutcome
pub mod Begun
pub mod RunGiven
