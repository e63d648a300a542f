pub mod Links
pub mod Causes
pub mod Memory
pub mod Sockets
