pub mod Packed
pub mod Short
