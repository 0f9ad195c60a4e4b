pub mod LiteralPlaces
pub mod RoundTrip
pub mod Limits
pub mod RunCalls
pub mod Numbers
pub mod Rows
pub mod Table
pub mod LargeBodies
