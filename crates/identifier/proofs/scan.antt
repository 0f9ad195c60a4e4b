pub mod Answers
pub mod Ends
pub mod Small
