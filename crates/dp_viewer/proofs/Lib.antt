pub mod Inputs
pub mod Recordings
pub mod Replaying
pub mod Showing
pub mod Given
pub mod Written
