pub mod CutRun
pub mod Endings
pub mod Limits
pub mod Reading
pub mod Told
