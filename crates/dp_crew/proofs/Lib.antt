pub mod SeatLemmas
pub mod WorkLemmas
pub mod ReportLemmas
pub mod Sending
pub mod Making
pub mod PartLemmas
pub mod GatherLemmas
pub mod CrewLemmas
