pub mod Anywhere
pub mod Ends
pub mod Input
pub mod Onward
pub mod Reader
pub mod Reading
