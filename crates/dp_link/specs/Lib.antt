pub mod Acts
pub mod Answers
pub mod Bytes
pub mod Hello
pub mod Reading
pub mod Saying
pub mod Hearing
pub mod Sending
