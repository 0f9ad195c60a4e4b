pub mod Class
pub mod Marks
