-- Each turn of the loop joins one further byte: `Joining` of proofs/Bits.antt says what holds between turns.
use native.Mathlib.Omega.{arith}
use mathlib.Core.Path.{sym}
use Rattle.utf8.proofs.Bits.{start, step, out, done, fits}
use Rattle.utf8.proofs.joined.Goals as goal

pub loop-i-init : goal.loop-i-init
loop-i-init c = start _ _ _ _ c.requires.1 c.requires.2

-- none does
pub returns-then-b-gt63 : goal.returns-then-b-gt63
returns-then-b-gt63 c =
    sym (out c.loop-i.invariant c.loop-i-test.true _ c.bits_at-b.ensures c.if-b-gt63.true)

pub overflow_mul-v : goal.overflow_mul-v
overflow_mul-v c = omega (arith, fits (step c.loop-i.invariant c.loop-i-test.true _ c.bits_at-b.ensures (omega (arith, c.if-b-gt63.false))))

pub overflow_add-v : goal.overflow_add-v
overflow_add-v c = omega (arith, fits (step c.loop-i.invariant c.loop-i-test.true _ c.bits_at-b.ensures (omega (arith, c.if-b-gt63.false))))

-- a further byte stands there: what holds after it
pub loop-i-preserved : goal.loop-i-preserved
loop-i-preserved c =
    step c.loop-i.invariant c.loop-i-test.true _ c.bits_at-b.ensures (omega (arith, c.if-b-gt63.false))

pub returns : goal.returns
returns c = sym (done c.loop-i.invariant c.loop-i-test.false)
