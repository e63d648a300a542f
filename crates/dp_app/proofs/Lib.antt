pub mod ByKind
pub mod Ends
pub mod Given
pub mod Telling
pub mod Keeping
