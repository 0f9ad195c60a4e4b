pub mod Branch
pub mod Bounds
pub mod Bytes
pub mod Cases
pub mod Stores
