-- Nothing is passed, or one character: proofs/Passing.antt.
use native.Mathlib.Omega.{arith}
use Rattle.string_turn.specs.Passing.{none}
use Rattle.string_turn.proofs.take.Passing.{one_passed}
use Rattle.string_turn.proofs.take.pass_one.Goals as goal

pub returns-then-text-at : goal.returns-then-text-at
returns-then-text-at c = record { string_passes = none; at_bound = omega arith }

pub overflow_cast-c : goal.overflow_cast-c
overflow_cast-c c = omega (arith, c.shared_slice_known-2-1.given c.args.from.at)

pub returns-then-is_added : goal.returns-then-is_added
returns-then-is_added c = record { string_passes = one_passed _ _ (omega (arith, c.if-text-at.false)) c.is_added.ensures c.if-is_added.true c.place_behind-behind.ensures c.advanced.ensures c.or_else.ensures; at_bound = omega arith }

pub returns : goal.returns
returns c = record { string_passes = none; at_bound = omega arith }
