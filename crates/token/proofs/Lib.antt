pub mod Places
pub mod Arms
