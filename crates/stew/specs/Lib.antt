pub mod RunAnswer
pub mod WriteAnswer
