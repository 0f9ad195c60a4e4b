pub mod Hashes
pub mod Leasts
pub mod Writes
pub mod Returns
