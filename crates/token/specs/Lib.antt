pub mod Keywords
pub mod Lookups
pub mod Spelt
pub mod Tokens
