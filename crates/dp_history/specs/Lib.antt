pub mod Frames
pub mod Items
pub mod Made
pub mod Openings
pub mod Pages
pub mod Users
