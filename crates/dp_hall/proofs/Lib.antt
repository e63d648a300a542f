pub mod Sending
pub mod ListLemmas
pub mod StepLemmas
pub mod NameLemmas
pub mod SeatLemmas
pub mod ViewLemmas
pub mod LawLemmas
