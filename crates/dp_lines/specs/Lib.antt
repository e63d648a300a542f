pub mod Ends
pub mod Held
pub mod Hexadecimal
pub mod Lines
pub mod Numbers
pub mod RunEnds
pub mod Taken
pub mod TakenParts
