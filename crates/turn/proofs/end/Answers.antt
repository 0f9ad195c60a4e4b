-- The end, or 11.
use Rattle.turn.proofs.Stepping.{end_here, end_open}
use Rattle.turn.proofs.end.Goals as goal

pub returns-then-level-eq0 : goal.returns-then-level-eq0
returns-then-level-eq0 c = λ braces. rw c.over.ensures (end_here _ _ _ _ c.if-level-eq0.true, tt)

pub returns-else-level-eq0 : goal.returns-else-level-eq0
returns-else-level-eq0 c = λ braces. rw c.stop.ensures (end_open _ _ _ _ c.if-level-eq0.false, tt)
