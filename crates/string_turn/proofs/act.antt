pub mod Reaching
pub mod Lands
pub mod Small
