-- The stretch so far; while it has no character, the loop stands where it began.
use Prim.Native.Nat.{◌-◌, ◌≤◌}
use mathlib.Core.Path.{◌≡◌}
use Rattle.chars.specs.Stretch.{StretchOf, High}
use Rattle.chars.proofs.passing.high.Given as goal

abbrev pub invariant-loop-at : goal.invariant-loop-at
invariant-loop-at l = StretchOf l.text High l.from l.count l.at × (l.at ≤ l.stop) × (l.count ≡ 0 → l.at ≡ l.from)

abbrev pub decreases-loop-at : goal.decreases-loop-at
decreases-loop-at l = l.stop - l.at
