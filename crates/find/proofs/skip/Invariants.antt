-- What is skipped from here is what is skipped from the start.
use Prim.Native.Nat.{◌-◌}
use lib.ListN.{length}
use Rattle.white.specs.White.{is_white}
use Rattle.chars.specs.Cursors.{cursor}
use Rattle.find.proofs.Skips.{Skipping}
use Rattle.find.proofs.skip.Given as goal

abbrev pub invariant-loop-c : goal.invariant-loop-c
invariant-loop-c l = Skipping is_white l.text (cursor l.initial.at l.initial.place) (cursor l.at l.place)

abbrev pub decreases-loop-c : goal.decreases-loop-c
decreases-loop-c l = length l.text - l.at
