pub mod JoinStanding
pub mod Given
pub mod Links
pub mod Stops
pub mod Sent
pub mod Reading
