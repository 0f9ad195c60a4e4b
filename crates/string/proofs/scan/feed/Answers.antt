-- Nothing, or two turns: proofs/Units.antt.
use native.Mathlib.Omega.{arith}
use Rattle.string.proofs.scan.Units.{ascii_at, feed_reads}
use Rattle.string.proofs.scan.feed.Goals as goal

pub returns : goal.returns
returns c =
    feed_reads _ _ c.requires (ascii_at _ _ c.byte_at.ensures c.if-byte_at-ne-LF.false (omega arith) (omega arith)) c.advanced_by.ensures c.lined.ensures
