pub mod OneAction
pub mod OneJoinAction
pub mod Words
