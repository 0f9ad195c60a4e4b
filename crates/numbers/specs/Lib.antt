pub mod Spell
pub mod Answer
