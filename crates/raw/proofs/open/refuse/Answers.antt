-- The record, with the fault that was made.
use Rattle.raw.proofs.open.refuse.Goals as goal

pub returns : goal.returns
returns c = rw c.about.ensures
