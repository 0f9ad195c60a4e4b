pub mod Finishes
pub mod Runs
pub mod Rows
pub mod Fair
pub mod Short
pub mod Small
