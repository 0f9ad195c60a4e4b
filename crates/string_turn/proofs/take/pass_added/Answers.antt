-- What was passed so far, a byte a turn at the most: proofs/Passing.antt.
use native.Mathlib.Omega.{arith}
use Rattle.string_turn.specs.Passing.{none, then}
use Rattle.string_turn.proofs.take.pass_added.Goals as goal

pub loop-init : goal.loop-init
loop-init c = (none, omega arith)

pub returns-then-next-here : goal.returns-then-next-here
returns-then-next-here c = record { string_passes = then c.loop.invariant.0 c.pass_one-next.ensures.string_passes; at_bound = omega (arith, c.loop.invariant.1, c.pass_one-next.ensures.at_bound) }

pub loop-preserved : goal.loop-preserved
loop-preserved c = (then c.loop.invariant.0 c.pass_one-next.ensures.string_passes, omega (arith, c.loop.invariant.1, c.pass_one-next.ensures.at_bound))

pub returns : goal.returns
returns c = record { string_passes = c.loop.invariant.0; at_bound = omega (arith, c.loop.invariant.1) }
