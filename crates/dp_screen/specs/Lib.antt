pub mod Screen
pub mod Due
