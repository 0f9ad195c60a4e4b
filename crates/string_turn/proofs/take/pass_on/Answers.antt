-- What was passed so far, and so many bytes are left: proofs/Passing.antt.
use Prim.Native.Nat.{◌+◌, ◌-◌, ◌≤◌}
use native.Mathlib.Omega.{arith}
use mathlib.Core.Path.{refl}
use Rattle.string_turn.specs.Passing.{none, then}
use Rattle.string_turn.proofs.take.Passing.{passes_low}
use Rattle.string_turn.proofs.take.pass_on.Goals as goal
use Rattle.string_turn.proofs.take.pass_on.Goals.{After-pass_added-one, After-stretch-next}

-- behind those that are only added
module _ (k : After-pass_added-one) where
  low : k.loop-here.here.at ≤ k.pass_added-one.result.at
  low = passes_low k.pass_added-one.ensures.string_passes

  fits : k.pass_added-one.result.at ≤ k.loop-here.here.at + k.loop-here.left
  fits = k.pass_added-one.ensures.at_bound

-- behind the stretch that follows them
module _ (k : After-stretch-next) where
  next_low : k.pass_added-one.result.at ≤ k.stretch-next.result.at
  next_low = passes_low k.stretch-next.ensures.string_passes

  next_fits : k.stretch-next.result.at ≤ k.pass_added-one.result.at + (k.loop-here.left - (k.pass_added-one.result.at - k.loop-here.here.at))
  next_fits = k.stretch-next.ensures.at_bound

pub loop-here-init : goal.loop-here-init
loop-here-init c = (none, refl)

pub returns-then-one-here : goal.returns-then-one-here
returns-then-one-here c = let i = c.loop-here.invariant in record { string_passes = then i.0 c.pass_added-one.ensures.string_passes; at_bound = omega (arith, i.1, fits (goal.at.returns-then-one-here c).After-pass_added-one) }

pub overflow_sub-left : goal.overflow_sub-left
overflow_sub-left c = low (goal.at.overflow_sub-left c).After-pass_added-one

pub overflow_sub-left-in-loop-here : goal.overflow_sub-left-in-loop-here
overflow_sub-left-in-loop-here c = omega (arith, low (goal.at.overflow_sub-left-in-loop-here c).After-pass_added-one, fits (goal.at.overflow_sub-left-in-loop-here c).After-pass_added-one)

pub overflow_sub-left-in-loop-here-2 : goal.overflow_sub-left-in-loop-here-2
overflow_sub-left-in-loop-here-2 c = next_low (goal.at.overflow_sub-left-in-loop-here-2 c).After-stretch-next

pub overflow_sub-left-in-loop-here-3 : goal.overflow_sub-left-in-loop-here-3
overflow_sub-left-in-loop-here-3 c = omega (arith, next_low (goal.at.overflow_sub-left-in-loop-here-3 c).After-stretch-next, next_fits (goal.at.overflow_sub-left-in-loop-here-3 c).After-stretch-next)

pub loop-here-smaller : goal.loop-here-smaller
loop-here-smaller c =
    omega (arith, low (goal.at.loop-here-smaller c).After-pass_added-one, fits (goal.at.loop-here-smaller c).After-pass_added-one, c.if-one-here.false)

pub loop-here-preserved : goal.loop-here-preserved
loop-here-preserved c =
    let i = c.loop-here.invariant in
    (then (then i.0 c.pass_added-one.ensures.string_passes) c.stretch-next.ensures.string_passes, omega (arith, i.1, low (goal.at.loop-here-preserved c).After-pass_added-one, fits (goal.at.loop-here-preserved c).After-pass_added-one, next_low (goal.at.loop-here-preserved c).After-stretch-next, next_fits (goal.at.loop-here-preserved c).After-stretch-next))
