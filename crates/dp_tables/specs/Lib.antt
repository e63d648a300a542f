pub mod SessionLog
pub mod Ready
pub mod Inside
pub mod Replay
