pub mod EachInput
pub mod Frames
pub mod OneReading
pub mod Onward
pub mod Reading
pub mod Refused
