pub mod Answer
pub mod Block
pub mod Doc
pub mod Step
