pub mod Commands
pub mod Effects
pub mod Faults
pub mod Joins
pub mod Servers
