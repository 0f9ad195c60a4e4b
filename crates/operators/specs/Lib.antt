pub mod Precedence
pub mod Assignments
pub mod Kinds
