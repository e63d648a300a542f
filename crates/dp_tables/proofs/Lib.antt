pub mod TableLemmas
pub mod ReplayLemmas
pub mod KeepLemmas
pub mod RoomLemmas
