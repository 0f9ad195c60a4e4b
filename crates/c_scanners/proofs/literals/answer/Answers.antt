-- The row is written, and its first number is answered.
use mathlib.Core.List.{List}
use mathlib.Core.Path.{ap}
use Prim.Native.Nat.{ℕ}
use lib.ListN.{get_or}
use Rattle.c_scanners.proofs.literals.answer.Goals as goal

pub returns : goal.returns
returns c = let is = c.row_of-row.ensures.0 in record { value = ap (λ (l : List ℕ). get_or l 0 0) is; memory_after = rw (← is) c.write_row.ensures.out_after }
