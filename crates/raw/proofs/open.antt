pub mod Openings
pub mod Leads
pub mod Small
