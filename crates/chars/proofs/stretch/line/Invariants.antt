-- What was passed is a stretch of characters that go on; where it stops none does: proofs/Ends.antt.
use Prim.Native.Nat.{◌-◌}
use lib.ListN.{length}
use Rattle.chars.specs.Stretch.{StretchOf}
use Rattle.chars.specs.Passing.{Goes}
use Rattle.chars.specs.declared.stretch.Stretch.TheVariants.{Line}
use Rattle.chars.proofs.stretch.line.Given as goal

abbrev pub invariant-loop-at : goal.invariant-loop-at
invariant-loop-at l = StretchOf l.text (Goes Line) l.from l.count l.at

abbrev pub decreases-loop-at : goal.decreases-loop-at
decreases-loop-at l = length l.text - l.at
