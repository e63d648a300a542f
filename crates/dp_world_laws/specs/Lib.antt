pub mod Unended
