-- Nothing, or one turn: proofs/Units.antt.
use native.Mathlib.Omega.{arith}
use Rattle.string.proofs.scan.Units.{ascii_at, sign_reads}
use Rattle.string.proofs.scan.sign.Goals as goal

pub returns-then-byte_at-eq-LEFT_BRACE : goal.returns-then-byte_at-eq-LEFT_BRACE
returns-then-byte_at-eq-LEFT_BRACE c =
    sign_reads _ _ c.requires (ascii_at _ _ c.byte_at.ensures c.if-byte_at-eq-DOLLAR.true (omega arith) (omega arith))
    (ascii_at _ _ c.byte_at-then-byte_at-eq-DOLLAR.ensures c.if-byte_at-eq-LEFT_BRACE.true (omega arith) (omega arith)) c.advanced.ensures
