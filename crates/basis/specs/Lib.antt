pub mod Pick
pub mod Store
pub mod Words
pub mod Types
