-- With room it is a copy to the front; without, nothing is called.
use mathlib.Core.Path.{sym}
use Rattle.lent.proofs.Writes.{refused, untouched, copied, kept}
use Rattle.lent.proofs.write.Goals as goal

pub returns-then-out-text : goal.returns-then-out-text
returns-then-out-text c = record { value = sym (refused _ _ c.if-out-text.true); out_after = sym (untouched _ _ c.if-out-text.true) }

pub returns : goal.returns
returns c = let fits = c.if-out-text.false in record { value = copied _ _ fits _ c.copy.ensures.value; out_after = kept _ _ fits _ c.copy.ensures.out_after }
