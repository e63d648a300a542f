pub mod Growing
pub mod Feeds
pub mod Logs
pub mod Journals
pub mod Closings
pub mod Kept
