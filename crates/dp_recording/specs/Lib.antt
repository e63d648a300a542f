pub mod Headers
pub mod Pulled
pub mod Recordings
