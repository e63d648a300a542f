pub mod Leads
pub mod Few
