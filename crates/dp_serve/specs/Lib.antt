pub mod Links
pub mod Works
pub mod Serving
pub mod Closings
