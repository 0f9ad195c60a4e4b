pub mod KindNumbers
pub mod Layouts
