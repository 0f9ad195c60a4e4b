-- The loop halves the stretch of words that may hold the text. Assumes nothing.
use Prim.Native.Nat.{◌-◌}
use Rattle.book_lookup.proofs.seek.Sought.{Seeking}
use Rattle.book_lookup.proofs.seek.seek.Given as goal

abbrev pub invariant-loop-lo : goal.invariant-loop-lo
invariant-loop-lo l = Seeking l.contents.book.now l.word l.lo l.hi

abbrev pub decreases-loop-lo : goal.decreases-loop-lo
decreases-loop-lo l = l.hi - l.lo
