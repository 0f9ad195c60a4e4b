-- Each byte that was passed is a character that goes on; where it stops none begins that does: proofs/Ends.antt.
use Prim.Native.Nat.{◌-◌, ◌≤◌}
use lib.ListN.{length}
use Rattle.chars.specs.Stretch.{StretchOf}
use Rattle.chars.specs.Passing.{Goes}
use Rattle.chars.specs.declared.stretch.Stretch.TheVariants.{Word}
use Rattle.chars.proofs.stretch.word.Given as goal

abbrev pub invariant-loop-at : goal.invariant-loop-at
invariant-loop-at l = StretchOf l.text (Goes Word) l.from (l.at - l.from) l.at × (l.from ≤ l.at)

abbrev pub decreases-loop-at : goal.decreases-loop-at
decreases-loop-at l = length l.text - l.at
