pub mod Answer
pub mod Ends
pub mod Entry
pub mod Kept
pub mod Limited
pub mod Reading
pub mod Standing
pub mod Units
