pub mod EntryKinds
