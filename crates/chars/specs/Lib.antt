pub mod Cursors
pub mod Ends
pub mod Passing
pub mod Scan
pub mod Stretch
pub mod Takes
