pub mod Run
pub mod Bytes
pub mod Widths
