-- The row has nine numbers. Assumes nothing.
use Prim.Native.Nat.{ℕ}
use mathlib.Core.Path.{◌≡◌, refl}
use lib.ListN.{length}
use Rattle.c_words.specs.OperatorRow.{operator_row}

pub row_long : (t : ℕ) → length (operator_row t) ≡ 9
unfolding operator_row
row_long t = refl
