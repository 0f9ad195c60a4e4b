pub mod Writer
pub mod Step
