pub mod Seek
pub mod Lookup
pub mod Halving
