pub mod Kept
pub mod Marks
pub mod Saves
pub mod Runs
pub mod Laws
