pub mod Store
pub mod FailingStore
pub mod Log
