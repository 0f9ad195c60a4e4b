pub mod PlaceNumbers
pub mod Rows
pub mod Forms
