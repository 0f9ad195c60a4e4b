pub mod Answer
pub mod Entries
pub mod Opening
pub mod Raw
pub mod Step
