-- By the number of its digits.
use mathlib.Core.Path.{sym}
use native.Mathlib.Omega.{arith}
use Rattle.listed.proofs.Lines.{number_one, number_two, number_three}
use Rattle.listed.proofs.put_number.Goals as goal

pub returns-then-n-lt10 : goal.returns-then-n-lt10
returns-then-n-lt10 c = rw (sym (number_one _ c.if-n-lt10.true)) c.put_word.ensures

pub returns-then-n-lt100 : goal.returns-then-n-lt100
returns-then-n-lt100 c = rw (sym (number_two _ c.if-n-lt10.false c.if-n-lt100.true)) c.put_word-then-n-lt100.ensures

pub returns-else-n-lt100 : goal.returns-else-n-lt100
returns-else-n-lt100 c = rw (sym (number_three _ c.if-n-lt100.false (omega arith))) c.put_word-else-n-lt100.ensures
