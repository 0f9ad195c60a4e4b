pub mod Turns
pub mod Aside
