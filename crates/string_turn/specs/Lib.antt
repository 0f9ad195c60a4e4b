pub mod Act
pub mod Answer
pub mod Endings
pub mod Kinds
pub mod Passing
pub mod Take
