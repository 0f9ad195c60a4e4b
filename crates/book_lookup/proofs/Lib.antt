pub mod Sorted
pub mod Holds
pub mod Places
pub mod Examples
