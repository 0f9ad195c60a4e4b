pub mod Cuts
pub mod OneCharacter
pub mod Literals
pub mod Reading
pub mod Stepping
pub mod Makes
