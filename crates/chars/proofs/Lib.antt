pub mod Cursors
pub mod Scans
pub mod Stretches
pub mod Follows
pub mod Reaches
pub mod Holds
pub mod Keeps
pub mod Small
