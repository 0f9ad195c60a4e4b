-- A count of 0 says that the opening is still to come. What it leads to from here, with the hashes counted so far, is what it leads to from the first hash on.
use Prim.Native.Nat.{◌+◌, ◌-◌, ◌≤◌}
use mathlib.Core.Path.{◌≡◌}
use lib.ListN.{length}
use Rattle.raw.proofs.open.Openings.{counting}
use Rattle.raw.proofs.open.open.Given as goal

abbrev pub invariant-loop-c : goal.invariant-loop-c
invariant-loop-c l =
    (l.k ≤ l.from.at + 1) × (counting l.start.place l.text l.initial.k l.initial.from ≡ counting l.start.place l.text l.k l.from)

abbrev pub decreases-loop-c : goal.decreases-loop-c
decreases-loop-c l = length l.text - l.from.at
