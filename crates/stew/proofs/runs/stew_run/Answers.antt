-- Too short an answer leaves all as it was; else the run's answer is its row.
use native.Mathlib.Omega.{arith}
use Rattle.stew.proofs.runs.Ways.{too_short, long_enough}
use Rattle.stew.proofs.runs.stew_run.Goals as goal

pub returns-then-answer-lt28 : goal.returns-then-answer-lt28
returns-then-answer-lt28 c = too_short _ _ _ _ _ _ c.if-answer-lt28.true c.short_number.ensures

pub overflow_cast-result : goal.overflow_cast-result
overflow_cast-result c = omega (arith, c.row_of-row.ensures.1)

pub returns : goal.returns
returns c =
    long_enough _ _ _ _ _ _ c.if-answer-lt28.false c.run-ran.ensures c.row_of-row.ensures.0 c.write_row.ensures.out_after
