-- Each arm of the match is a law of proofs/Ways.antt on the letters.
use native.Mathlib.Omega.{arith}
use Rattle.escape.proofs.Ways.{after_x, after_u, after_U, after_none}
use Rattle.escape.proofs.digits_after.Goals as goal

pub returns-in-120 : goal.returns-in-120
returns-in-120 c = (search after_x, omega arith)

pub returns-in-117 : goal.returns-in-117
returns-in-117 c = (search after_u, omega arith)

pub returns-in-85 : goal.returns-in-85
returns-in-85 c = (search after_U, omega arith)

pub returns-in_default : goal.returns-in_default
returns-in_default c = (search after_none, omega arith)
