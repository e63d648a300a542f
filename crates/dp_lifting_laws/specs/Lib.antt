pub mod FirstCarried
pub mod FirstReplay
pub mod FirstRows
pub mod Lifted
pub mod Worked
