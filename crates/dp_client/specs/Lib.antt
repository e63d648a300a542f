pub mod Client
pub mod Taking
pub mod Drawn
pub mod Due
