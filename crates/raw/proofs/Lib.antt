pub mod Computes
pub mod Returns
pub mod Refusals
pub mod Limits
