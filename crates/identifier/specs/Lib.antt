pub mod Answer
pub mod Identifiers
pub mod Told
pub mod Valid
