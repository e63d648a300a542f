pub mod KindRanges
pub mod OneMessage
pub mod Refusals
pub mod Comparing
pub mod KindSeventy
pub mod Headers
