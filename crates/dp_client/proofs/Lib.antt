pub mod Drawing
pub mod Few
pub mod Taking
