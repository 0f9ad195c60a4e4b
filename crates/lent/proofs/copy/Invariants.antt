-- What is still to be copied goes where the whole was to go: the stores left from here are those of the start.
use Prim.Native.Nat.{◌+◌}
use mathlib.Core.Path.{◌≡◌}
use lib.ListN.{drop}
use lib.Seq.{sets}
use Rattle.lent.proofs.copy.Given as goal

abbrev pub invariant-loop-i : goal.invariant-loop-i
invariant-loop-i l = sets l.initial.out l.at l.from ≡ sets l.out (l.at + l.i) (drop l.i l.from)
