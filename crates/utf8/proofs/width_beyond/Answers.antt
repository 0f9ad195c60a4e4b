-- The character that `longer` reads tells the width.
use mathlib.Core.Path.{sym, ◌∙◌}
use Rattle.utf8.proofs.Widths.{char_width, end_width}
use Rattle.utf8.proofs.width_beyond.Goals as goal

pub returns-in-Some : goal.returns-in-Some
returns-in-Some c = char_width (sym c.longer.ensures ∙ c.in-Some.is)

pub returns-in-None : goal.returns-in-None
returns-in-None c = end_width (sym c.longer.ensures ∙ c.in-None.is)
