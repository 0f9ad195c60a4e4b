-- The loop passes the words that start where the one before ends. Assumes nothing.
use Rattle.book.proofs.Words.{Running}
use Rattle.book.proofs.runs_on.Given as goal

abbrev pub invariant-loop-k : goal.invariant-loop-k
invariant-loop-k l = Running l.contents.book.now l.contents.words l.at l.k
