pub mod CommandLines
pub mod Forms
pub mod Program
pub mod Several
pub mod Values
pub mod Wanted
