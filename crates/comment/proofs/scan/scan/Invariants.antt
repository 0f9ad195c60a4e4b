-- The scan from here is the scan from the start; a turn that is over gives it.
use Prim.Native.Nat.{◌-◌}
use mathlib.Core.Path.{◌≡◌}
use lib.ListN.{length}
use Rattle.comment.specs.Block.{comment_of}
use Rattle.comment.specs.Step.{LevelFits}
use Rattle.comment.proofs.scan.scan.Given as goal

abbrev pub invariant-loop-n : goal.invariant-loop-n
invariant-loop-n l = LevelFits (length l.text) l.depth l.cursor × (comment_of l.text l.initial.cursor l.initial.depth ≡ comment_of l.text l.cursor l.depth)

abbrev pub decreases-loop-n : goal.decreases-loop-n
decreases-loop-n l = length l.text - l.cursor.at
