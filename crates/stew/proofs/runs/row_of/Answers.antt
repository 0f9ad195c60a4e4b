-- Each arm is the row of what its case tells.
use native.Mathlib.Omega.{arith}
use Rattle.lex_error.proofs.Small.{number_small}
use Rattle.reading.specs.Told.{ending_number, ending_place, ending_part}
use Rattle.stew.specs.RunAnswer.{tells_of}
use Rattle.stew.proofs.runs.row_of.Goals as goal

pub returns-in-Ok : goal.returns-in-Ok
unfolding tells_of ending_number ending_place ending_part
returns-in-Ok c =
    (rw (c.in-Ok.is, c.from.ensures, c.from-in-Ok.ensures, c.line_number.ensures, c.column_number.ensures), omega arith)

pub returns-in-Err : goal.returns-in-Err
unfolding tells_of ending_number ending_place ending_part
returns-in-Err c =
    (rw (c.in-Err.is, c.from-in-Err.ensures, c.from-in-Err-2.ensures, c.from-in-Err-3.ensures, c.number.ensures, c.line_number-in-Err.ensures, c.column_number-in-Err.ensures), omega (arith, c.from-in-Err.ensures, c.number.ensures, number_small c.in-Err.fault.error))
