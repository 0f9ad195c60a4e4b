pub mod Plain
pub mod Fits
pub mod Words
pub mod Checks
pub mod Examples
