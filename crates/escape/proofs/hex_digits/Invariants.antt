-- The invariant is that the digits left, counted on from what was read, are those from the start: proofs/Ways.antt.
use Prim.Native.Nat.{◌-◌}
use Rattle.escape.proofs.Ways.{Counting}
use Rattle.escape.proofs.hex_digits.Given as goal

abbrev pub invariant-loop-i : goal.invariant-loop-i
invariant-loop-i l = Counting l.text l.n l.initial.here l.here l.v l.i

abbrev pub decreases-loop-i : goal.decreases-loop-i
decreases-loop-i l = l.n - l.i
