pub mod Ends
pub mod Small
