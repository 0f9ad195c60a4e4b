-- What goes on from here goes on from the start, since every byte passed does.
use Prim.Native.Nat.{◌-◌, ◌≤◌}
use mathlib.Core.Path.{◌≡◌}
use lib.ListN.{length, drop}
use Rattle.identifier.specs.Valid.{all_continue}
use Rattle.identifier.proofs.valid.goes_on.Given as goal

abbrev pub invariant-loop-i : goal.invariant-loop-i
invariant-loop-i l = (l.i ≤ length l.name) × (all_continue (drop l.from l.name) ≡ all_continue (drop l.i l.name))

abbrev pub decreases-loop-i : goal.decreases-loop-i
decreases-loop-i l = length l.name - l.i
