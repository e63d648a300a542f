pub mod Logs
pub mod Names
pub mod Rule
pub mod Calls
pub mod Holding
pub mod Laws
