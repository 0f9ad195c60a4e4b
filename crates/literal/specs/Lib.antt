pub mod Answers
pub mod Cut
pub mod Limits
pub mod Scans
pub mod Told
pub mod Trace
