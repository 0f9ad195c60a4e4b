-- The body's own number, or 9.
use mathlib.Core.Path.{sym, ◌∙◌}
use Rattle.stew.proofs.writer.Ways.{no_fault, own_fault}
use Rattle.stew.proofs.writer.short_number.Goals as goal

pub returns-in-Ok : goal.returns-in-Ok
returns-in-Ok c = c.from.ensures ∙ c.number.ensures ∙ no_fault _ (sym c.text.ensures ∙ c.in-Ok.is)

pub returns-in-Err : goal.returns-in-Err
returns-in-Err c = c.from-in-Err.ensures ∙ c.number-in-Err.ensures ∙ own_fault _ (sym c.text.ensures ∙ c.in-Err.is)
