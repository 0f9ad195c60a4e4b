pub mod Bits
pub mod Blocks
pub mod Encode
pub mod Looks
pub mod Table
pub mod Unicode
pub mod Widths
