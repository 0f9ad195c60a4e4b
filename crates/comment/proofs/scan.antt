pub mod Ends
pub mod Returns
pub mod Turns
pub mod Small
