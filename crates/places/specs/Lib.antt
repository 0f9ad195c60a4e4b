pub mod Answer
pub mod Coordinates
pub mod Moves
pub mod Sum
pub mod Told
