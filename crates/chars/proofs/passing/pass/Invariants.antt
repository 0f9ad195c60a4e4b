-- The stretch so far: `extra` is how many of its bytes are not the first of a character.
use Prim.Native.Nat.{◌+◌, ◌-◌, ◌≤◌}
use Rattle.chars.specs.Stretch.{StretchOf, Other}
use Rattle.chars.proofs.passing.pass.Given as goal

abbrev pub invariant-loop-at : goal.invariant-loop-at
invariant-loop-at l = StretchOf l.text (Other l.a l.b l.d l.e l.f) l.from (l.at - l.from - l.extra) l.at × (l.from + l.extra ≤ l.at) × (l.at ≤ l.stop)

abbrev pub decreases-loop-at : goal.decreases-loop-at
decreases-loop-at l = l.stop - l.at
