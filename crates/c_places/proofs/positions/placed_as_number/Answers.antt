-- Each arm is the number of its case.
use mathlib.Core.Path.{◌∙◌}
use Rattle.c_answer.specs.Packed.{refusal_as_number}
use Rattle.c_places.proofs.positions.Cases.{at_number, refused_number}
use Rattle.c_places.proofs.positions.placed_as_number.Goals as goal

pub returns-in-Ok : goal.returns-in-Ok
returns-in-Ok c = rw c.in-Ok.is (c.pack.ensures ∙ at_number _)

pub returns-in-Err : goal.returns-in-Err
unfolding refusal_as_number
returns-in-Err c = rw (c.in-Err.is, c.from.ensures, c.number.ensures) (refused_number _)
