pub mod Standing
pub mod Longer
pub mod Fronts
pub mod Begun
pub mod Examples
