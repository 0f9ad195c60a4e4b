-- The invariant is that the digits left, counted on from what was read, are those from the start: proofs/Ways.antt.
use Prim.Native.Nat.{◌<◌}
use native.Mathlib.Omega.{arith}
use Rattle.classes.proofs.Digits.{digit_found}
use Rattle.escape.proofs.Ways.{counting_start, counting_cut, counting_bad, counting_more, counting_done, counting_small}
use Rattle.escape.proofs.hex_digits.Goals as goal
use Rattle.escape.proofs.hex_digits.Goals.{In-loop-i}

below : (k : In-loop-i) → k.loop-i.v < 268435456
below k = search counting_small

pub loop-i-init : goal.loop-i-init
loop-i-init c = search counting_start

pub returns-in_default : goal.returns-in_default
returns-in_default c = search counting_cut

pub returns-in_default-to_digit : goal.returns-in_default-to_digit
returns-in_default-to_digit c = search counting_bad

pub overflow_mul-v : goal.overflow_mul-v
overflow_mul-v c = omega (arith, below (goal.at.overflow_mul-v c).In-loop-i)

pub overflow_add-v : goal.overflow_add-v
overflow_add-v c = omega (arith, below (goal.at.overflow_add-v c).In-loop-i, digit_found _ c.in-Some-to_digit.ensures)

pub loop-i-preserved : goal.loop-i-preserved
loop-i-preserved c = search counting_more

pub returns : goal.returns
returns c = search counting_done
