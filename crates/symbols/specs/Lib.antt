pub mod Begun
pub mod Found
pub mod Symbols
