pub mod FirstFrame
pub mod Hearing
pub mod PageLemmas
pub mod SeenLemmas
pub mod SendLemmas
pub mod Steps
pub mod Turns
