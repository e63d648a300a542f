pub mod Layers
pub mod Rows
pub mod Changes
pub mod Tree
pub mod Inside
pub mod Lends
