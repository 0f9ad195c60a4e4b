-- The record, with the fault that was made.
use Rattle.literal.proofs.Refusal.as_given.Goals as goal

pub returns : goal.returns
returns c = rw c.at.ensures
