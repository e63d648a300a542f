pub mod Board
pub mod Commands
pub mod Contents
pub mod Weights
pub mod View
pub mod Picture
