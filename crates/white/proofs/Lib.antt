pub mod Steady
pub mod Whites
