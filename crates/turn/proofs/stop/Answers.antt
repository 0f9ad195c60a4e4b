-- The fault that was made, in the stop that was made.
use mathlib.Core.Path.{◌∙◌}
use Rattle.turn.proofs.stop.Goals as goal

pub returns : goal.returns
returns c = c.over.ensures ∙ rw c.at.ensures
