-- The cursor is made of the offset and the place.
use Rattle.chars.proofs.stretch.behind.Goals as goal

pub returns : goal.returns
returns c = rw c.advanced_by.ensures
