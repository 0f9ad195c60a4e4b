-- What `get_next` takes at the place one column on.
use mathlib.Core.Path.{◌∙◌}
use Rattle.chars.proofs.Cursors.{ate_got}
use Rattle.chars.proofs.cursor.Cursor.eat_next_and_advance.Goals as goal

pub returns : goal.returns
returns c = c.get_next.ensures ∙ ate_got _ _ c.advanced-place.ensures
