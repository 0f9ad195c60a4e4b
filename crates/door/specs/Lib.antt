pub mod Door
pub mod RunDoor
