pub mod Counts
pub mod Rules
pub mod Script
pub mod Skips
pub mod States
pub mod Steps
pub mod Verdicts
