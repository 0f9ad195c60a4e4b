-- Each turn of the loop joins one further byte: `Joining` of proofs/Bits.antt says what holds between turns.
use Prim.Native.Nat.{◌+◌, ◌-◌}
use Rattle.utf8.proofs.Bits.{Joining}
use Rattle.utf8.proofs.joined.Given as goal

abbrev pub invariant-loop-i : goal.invariant-loop-i
invariant-loop-i l = Joining l.text l.at l.n l.first l.v l.i

abbrev pub decreases-loop-i : goal.decreases-loop-i
decreases-loop-i l = l.n + 1 - l.i
