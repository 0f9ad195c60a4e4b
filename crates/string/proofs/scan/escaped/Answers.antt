-- Nothing, or two turns: proofs/Units.antt.
use native.Mathlib.Omega.{arith}
use Rattle.string.proofs.scan.Units.{ascii_at, escape_reads, continues_reads}
use Rattle.string.proofs.scan.escaped.Goals as goal

pub overflow_add-here : goal.overflow_add-here
overflow_add-here c = omega (arith, c.requires.2.inside)

pub returns-then-q-eq-QUOTE : goal.returns-then-q-eq-QUOTE
returns-then-q-eq-QUOTE c =
    continues_reads _ _ _ c.if-q-eq-QUOTE.true c.requires.2 (ascii_at _ _ c.byte_at.ensures c.if-byte_at-eq-LF.true (omega arith) (omega arith)) _
    c.advanced_by.ensures c.lined.ensures c.column_number.ensures

pub returns : goal.returns
returns c =
    escape_reads _ _ _ c.requires.0 c.requires.1 c.whole_at-whole.ensures c.advanced_by-2.ensures c.if-whole-eq0.false _
