pub mod Decimals
pub mod Printed
pub mod Lines
pub mod Examples
