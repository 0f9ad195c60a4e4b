-- The questions of the definition, in its order.
use mathlib.Core.Path.{sym, ◌∙◌}
use Rattle.door.proofs.Doors.{text_long, text_bytes, text_good}
use Rattle.door.proofs.text.Goals as goal

pub returns-then-text-gt16777216 : goal.returns-then-text-gt16777216
returns-then-text-gt16777216 c = sym (text_long _ c.if-text-gt16777216.true)

pub returns-then-check : goal.returns-then-check
returns-then-check c = sym (text_good _ c.if-text-gt16777216.false (sym c.check.ensures ∙ c.if-check.true))

pub returns : goal.returns
returns c = sym (text_bytes _ c.if-text-gt16777216.false (sym c.check.ensures ∙ c.if-check.false))
