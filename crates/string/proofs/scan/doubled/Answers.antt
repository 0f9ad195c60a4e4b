-- Nothing, or one turn: proofs/Units.antt.
use native.Mathlib.Omega.{arith}
use mathlib.Core.Path.{sym, ◌∙◌}
use Rattle.string.proofs.scan.Units.{terminates, ascii_at, doubled_reads}
use Rattle.string.proofs.scan.doubled.Goals as goal

pub returns : goal.returns
returns c =
    let q = terminates c.requires.0 in
    doubled_reads _ _ _ c.requires.0 (omega (arith, c.if-here-gt0.false)) (sym c.is_none.ensures ∙ c.if-is_none.false) c.requires.1
    (ascii_at _ _ c.byte_at.ensures c.if-byte_at-q.false q.some q.low) c.advanced_by.ensures
