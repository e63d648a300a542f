pub mod Answer
pub mod Endings
