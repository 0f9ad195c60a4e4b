-- What is returned for a row of n numbers, for each way out: the memory is too short for it, or is not. Assumes nothing.
use Prim.Native.Nat.{ℕ, ◌*◌, ◌≤◌, ◌<◌}
use mathlib.Core.List.{List}
use mathlib.Core.Path.{◌≡◌, ap, ◌∙◌}
use lib.ListN.{length, get_or}
use borrow.Author.Tests.{lt-ltb, le-ltb}
use Rattle.numbers.specs.Spell.{spelled}
use Rattle.numbers.specs.Answer.{short}
use Rattle.numbers.proofs.Rows.{length_spelled}
use Rattle.c_answer.specs.Short.{short_row_number, returned_or}

module _ (n : ℕ) (row memory : List ℕ) (e : length row ≡ n) (k : ℕ) where
  -- so many bytes
  long : length (spelled 8 row) ≡ n * 8
  long = length_spelled 8 row ∙ ap (λ (m : ℕ). m * 8) e

  pub short_told : length memory < n * 8 → short_row_number k ≡ returned_or k row memory
  unfolding short returned_or
  short_told h = rw (long, lt-ltb (length memory) (n * 8) h)

  pub long_told : n * 8 ≤ length memory → get_or row 0 0 ≡ returned_or k row memory
  unfolding short returned_or
  long_told h = rw (long, le-ltb (length memory) (n * 8) h)
