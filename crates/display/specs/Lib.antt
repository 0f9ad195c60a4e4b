pub mod Decimal
pub mod Forms
