-- Each return is a law of proofs/Wholes.antt on the whole.
use native.Mathlib.Omega.{arith}
use Rattle.escape.specs.Whole.{none}
use Rattle.escape.proofs.Wholes.{whole_letter, whole_terminator, whole_number}
use Rattle.escape.proofs.whole_of.Goals as goal

pub returns-then-letter-ne-NOTHING : goal.returns-then-letter-ne-NOTHING
returns-then-letter-ne-NOTHING c =
    let pre = c.requires in
    whole_letter _ _ _ _ pre.1 pre.2 pre.3 c.letter_of-letter.ensures c.if-letter-ne-NOTHING.true

pub returns-then-c-q : goal.returns-then-c-q
returns-then-c-q c =
    let pre = c.requires in
    whole_terminator _ _ _ _ pre.1 pre.2 pre.3 c.letter_of-letter.ensures c.if-letter-ne-NOTHING.false c.digits_after-n.ensures.0 c.if-n-eq0.true c.if-c-q.true

pub returns-then-n-eq0 : goal.returns-then-n-eq0
returns-then-n-eq0 c = none

pub overflow_add-at : goal.overflow_add-at
overflow_add-at c = omega (arith, c.requires.0)

pub value_at-v-requires : goal.value_at-v-requires
value_at-v-requires c = c.digits_after-n.ensures.1

pub overflow_add-result : goal.overflow_add-result
overflow_add-result c = omega (arith, c.digits_after-n.ensures.1)

pub returns-then-is_scalar : goal.returns-then-is_scalar
returns-then-is_scalar c =
    let pre = c.requires in
    whole_number _ _ _ _ pre.1 pre.2 pre.3 c.letter_of-letter.ensures c.if-letter-ne-NOTHING.false c.digits_after-n.ensures.0 c.if-n-eq0.false c.value_at-v.ensures c.is_scalar.ensures c.if-is_scalar.true

pub returns : goal.returns
returns c = none
