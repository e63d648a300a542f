pub mod Marks
pub mod Placed
pub mod Sending
pub mod Room
pub mod Tables
pub mod Opened
pub mod Pages
pub mod Keeping
