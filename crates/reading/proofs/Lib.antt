pub mod Limits
pub mod Fits
pub mod Small
