-- The one edition's test.
use mathlib.Core.Path.{sym, ◌∙◌}
use Rattle.white.proofs.Whites.{in_later}
use Rattle.white.proofs.is_white_in.Goals as goal

pub returns : goal.returns
returns c = c.is_white.ensures ∙ sym (in_later _ _)
