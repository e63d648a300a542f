pub mod LiftedRights
pub mod LiftedEvents
pub mod LiftedRows
pub mod Depths
pub mod LiftedReplays
pub mod FirstReplays
pub mod OneJournal
pub mod WorkedRows
