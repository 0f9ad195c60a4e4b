-- Nothing is passed, or a stretch, and in text what follows it: proofs/Passing.antt.
use Prim.Native.Nat.{◌≤◌}
use native.Mathlib.Omega.{arith}
use Rattle.string_turn.specs.Passing.{none}
use Rattle.string_turn.proofs.take.Passing.{passes_low, in_text}
use Rattle.string_turn.proofs.take.pass.Goals as goal
use Rattle.string_turn.proofs.take.pass.Goals.{After-stretch-near}

-- behind the stretch
module _ (k : After-stretch-near) where
  low : k.args.from.at ≤ k.stretch-near.result.at
  low = passes_low k.stretch-near.ensures.string_passes

pub returns-then-next_is : goal.returns-then-next_is
returns-then-next_is c = record { string_passes = none; at_bound = omega arith }

pub overflow_sub-near : goal.overflow_sub-near
overflow_sub-near c = low (goal.at.overflow_sub-near c).After-stretch-near

pub overflow_sub-most : goal.overflow_sub-most
overflow_sub-most c = omega (arith, low (goal.at.overflow_sub-most c).After-stretch-near, c.stretch-near.ensures.at_bound)

pub returns-then-is_verbatim : goal.returns-then-is_verbatim
returns-then-is_verbatim c = record { string_passes = in_text c.is_verbatim.ensures c.if-is_verbatim.true c.stretch-near.ensures.string_passes c.pass_on.ensures.string_passes; at_bound = omega (arith, low (goal.at.returns-then-is_verbatim c).After-stretch-near, c.stretch-near.ensures.at_bound, c.pass_on.ensures.at_bound) }
