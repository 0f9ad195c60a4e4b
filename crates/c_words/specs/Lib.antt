pub mod TokenNumbers
pub mod OperatorRow
pub mod IdentifierRow
