-- The number that is told, as it is where the row has no room.
use mathlib.Core.Path.{sym, ap, ◌∙◌}
use Rattle.literal.specs.Told.{refusal_number}
use Rattle.c_answer.specs.Short.{short_row_number}
use Rattle.c_scanners.proofs.literals.short_number.Goals as goal

pub returns-in-Ok : goal.returns-in-Ok
unfolding refusal_number
returns-in-Ok c = rw (c.in-Ok.is) c.short_number.ensures

pub returns-in-Err : goal.returns-in-Err
unfolding refusal_number
returns-in-Err c = rw c.in-Err.is (c.short_number-in-Err.ensures ∙ ap short_row_number (c.from.ensures ∙ c.number.ensures))
