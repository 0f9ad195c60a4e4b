-- Each arm is the row of what its case tells; a place that a case does not have is NONE, which is 0.
use native.Mathlib.Omega.{arith}
use Rattle.lex_error.proofs.Small.{number_small}
use Rattle.position.specs.Place.{none}
use Rattle.literal.specs.Told.{told}
use Rattle.c_answer.proofs.Examples.{worked}
use Rattle.c_scanners.specs.LiteralRow.{literal_row}
use Rattle.c_scanners.proofs.literals.row_of.Goals as goal

pub returns-in-Ok : goal.returns-in-Ok
unfolding literal_row told none
returns-in-Ok c =
    (rw (c.in-Ok.is, c.pack.ensures, c.pack-in-Ok.ensures, c.pack-in-Ok-2.ensures), omega arith)

pub returns-in-Err : goal.returns-in-Err
unfolding literal_row told
returns-in-Err c =
    (rw (c.in-Err.is, c.from.ensures, c.number.ensures, c.pack-in-Err.ensures, c.pack-in-Err-2.ensures, worked.no_place), omega (arith, c.from.ensures, c.number.ensures, number_small c.in-Err.refusal.fault.error))
