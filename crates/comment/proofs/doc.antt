pub mod Returns
pub mod Words
