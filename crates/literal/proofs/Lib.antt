pub mod Turns
pub mod Limits
pub mod Within
pub mod Lands
pub mod Small
pub mod Alike
pub mod Computes
