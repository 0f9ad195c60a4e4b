-- The digits so far are those of the definition, wherever they stand: proofs/Wholes.antt.
use Prim.Native.Nat.{◌+◌, ◌<◌}
use native.Mathlib.Omega.{arith}
use mathlib.Core.Path.{refl}
use lib.ListN.{length}
use Rattle.classes.proofs.Digits.{digit_found}
use Rattle.escape.proofs.Wholes.{counted_start, counted_done, counted_small, counted_more}
use Rattle.escape.proofs.value_at.Goals as goal
use Rattle.escape.proofs.value_at.Goals.{In-loop-i}

-- a turn of the loop
module _ (k : In-loop-i) where
  inside : k.args.from + k.loop-i.i < length k.args.text.now
  inside = omega (arith, k.loop-i-test.true, k.if-text-from-2.false, k.if-text-from.false)

  below : k.loop-i.v < 268435456
  below = counted_small _ _ _ _ _ k.loop-i.invariant k.loop-i-test.true k.requires

pub returns-then-text-from : goal.returns-then-text-from
returns-then-text-from c n = absurd (n refl)

pub loop-i-init : goal.loop-i-init
loop-i-init c = counted_start _ _ _

pub overflow_add-from : goal.overflow_add-from
overflow_add-from c = omega (arith, inside c)

pub bounds-text-from : goal.bounds-text-from
bounds-text-from c = inside (goal.at.bounds-text-from c).In-loop-i

pub overflow_cast-text : goal.overflow_cast-text
overflow_cast-text c = omega (arith, c.shared_slice_known-in-loop-i-1.given (c.args.from + c.loop-i.i))

pub returns-in_default : goal.returns-in_default
returns-in_default c n = absurd (n refl)

pub overflow_mul-v : goal.overflow_mul-v
overflow_mul-v c = omega (arith, below (goal.at.overflow_mul-v c).In-loop-i)

pub overflow_add-v : goal.overflow_add-v
overflow_add-v c = omega (arith, below (goal.at.overflow_add-v c).In-loop-i, digit_found _ c.in-Some.ensures)

pub loop-i-preserved : goal.loop-i-preserved
loop-i-preserved c = counted_more _ _ _ _ _ c.loop-i.invariant c.loop-i-test.true (inside (goal.at.loop-i-preserved c).In-loop-i) c.to_digit.ensures c.in-Some.is

pub returns : goal.returns
returns c n = counted_done _ _ _ _ _ c.loop-i.invariant c.loop-i-test.false
