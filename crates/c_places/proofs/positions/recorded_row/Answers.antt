-- Each arm is the row of what its case tells; a place that a case does not have is NONE, which is 0.
use native.Mathlib.Omega.{arith}
use Rattle.lex_error.proofs.Small.{number_small}
use Rattle.token_ends.specs.Told.{told}
use Rattle.c_answer.proofs.Examples.{worked}
use Rattle.c_places.proofs.positions.recorded_row.Goals as goal

pub returns-in-Ok : goal.returns-in-Ok
unfolding told
returns-in-Ok c = (rw (c.in-Ok.is, c.pack.ensures, c.pack-in-Ok.ensures), omega arith)

pub returns-in-Err : goal.returns-in-Err
unfolding told
returns-in-Err c = (rw (c.in-Err.is, c.from.ensures, c.number.ensures, worked.no_place), omega (arith, c.from.ensures, c.number.ensures, number_small c.in-Err.error))
