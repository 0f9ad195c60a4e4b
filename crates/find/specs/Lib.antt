pub mod Find
pub mod Skip
