pub mod FirstProfile
