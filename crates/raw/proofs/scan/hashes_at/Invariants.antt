-- Each byte that was passed is a hash, and they are as many as are counted.
use Prim.Native.Nat.{◌-◌, ◌≤◌, ◌+◌}
use lib.ListN.{length}
use Rattle.raw.specs.Step.{Hashes}
use Rattle.raw.proofs.scan.hashes_at.Given as goal

abbrev pub invariant-loop-n : goal.invariant-loop-n
invariant-loop-n l = Hashes l.text l.from l.n × (l.from + l.n ≤ length l.text)

abbrev pub decreases-loop-n : goal.decreases-loop-n
decreases-loop-n l = l.k - l.n
