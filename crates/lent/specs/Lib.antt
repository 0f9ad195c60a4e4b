pub mod Answer
pub mod Written
