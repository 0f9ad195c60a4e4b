pub mod Answer
pub mod Escapes
pub mod Whole
