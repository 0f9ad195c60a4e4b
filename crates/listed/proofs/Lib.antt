pub mod Puts
pub mod Wholes
pub mod Lines
pub mod Runs
