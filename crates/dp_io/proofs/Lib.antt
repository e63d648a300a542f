pub mod ReadEnds
pub mod WriteRuns
pub mod Pieces
pub mod Prefixes
