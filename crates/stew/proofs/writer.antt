pub mod Ways
pub mod Lengths
