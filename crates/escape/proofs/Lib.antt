pub mod Computes
pub mod Ways
pub mod Wholes
pub mod Small
