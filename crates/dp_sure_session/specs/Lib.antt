pub mod FirstPast
