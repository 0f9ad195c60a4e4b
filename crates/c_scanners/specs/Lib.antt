pub mod CommentRow
pub mod LiteralRow
pub mod RawScans
pub mod StringScans
