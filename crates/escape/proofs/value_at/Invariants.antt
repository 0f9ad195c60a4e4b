-- The digits so far are those of the definition, wherever they stand: proofs/Wholes.antt.
use Prim.Native.Nat.{◌-◌}
use Rattle.escape.proofs.Wholes.{Counted}
use Rattle.escape.proofs.value_at.Given as goal

abbrev pub invariant-loop-i : goal.invariant-loop-i
invariant-loop-i l = Counted l.text l.from l.n l.v l.i

abbrev pub decreases-loop-i : goal.decreases-loop-i
decreases-loop-i l = l.n - l.i
