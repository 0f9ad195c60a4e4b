pub mod Same
pub mod Sought
pub mod Examples
