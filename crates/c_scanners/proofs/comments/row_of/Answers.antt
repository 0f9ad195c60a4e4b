-- Each arm is the row of what its case tells.
use native.Mathlib.Omega.{arith}
use Rattle.lex_error.proofs.Small.{number_small}
use Rattle.comment.specs.Block.{told}
use Rattle.c_scanners.proofs.comments.row_of.Goals as goal

pub returns-in-Ok : goal.returns-in-Ok
unfolding told
returns-in-Ok c = (rw (c.in-Ok.is, c.pack.ensures), omega arith)

pub returns-in-Err : goal.returns-in-Err
unfolding told
returns-in-Err c = (rw (c.in-Err.is, c.from.ensures, c.number.ensures, c.pack-in-Err.ensures), omega (arith, c.from.ensures, c.number.ensures, number_small c.in-Err.fault.error))
