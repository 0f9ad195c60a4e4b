-- Each byte that was passed is a hash, and they are as many as are counted.
use native.Mathlib.Omega.{arith}
use Rattle.raw.specs.Step.{none, more}
use Rattle.raw.proofs.scan.Passing.{one_byte}
use Rattle.raw.proofs.scan.hashes_at.Goals as goal

pub loop-n-init : goal.loop-n-init
loop-n-init c = (none, omega (arith, c.requires))

pub loop-n-preserved : goal.loop-n-preserved
loop-n-preserved c = (more c.loop-n.invariant.0 (one_byte _ _ c.if-from-n.true c.if-text-from-eq35.true (omega arith)), omega (arith, c.if-from-n.true))
