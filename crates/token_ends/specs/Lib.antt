pub mod Answer
pub mod Ends
pub mod Told
