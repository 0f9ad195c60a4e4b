pub mod Reaching
pub mod Passing
pub mod Lands
pub mod Small
