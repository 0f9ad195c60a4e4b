pub mod Begins
pub mod Ahead
pub mod Skips
pub mod Small
