-- A row of n numbers answered in lent memory, for each way out: the memory is too short for it, or is not. Assumes nothing.
use Prim.Native.Nat.{ℕ, ◌*◌, ◌≤◌, ◌<◌}
use mathlib.Core.Bool.{true, false}
use mathlib.Core.List.{List}
use mathlib.Core.Path.{◌≡◌, sym, ap, ◌∙◌}
use lib.ListN.{length}
use borrow.Author.Tests.{lt-ltb, le-ltb}
use Rattle.lent.proofs.Writes.{untouched}
use Rattle.numbers.specs.Spell.{spelled}
use Rattle.numbers.specs.Answer.{short, fitted, answered, beside}
use Rattle.numbers.proofs.Rows.{length_spelled}

module _ (n : ℕ) (row memory : List ℕ) (e : length row ≡ n) where
  -- so many bytes
  long : length (spelled 8 row) ≡ n * 8
  long = length_spelled 8 row ∙ ap (λ (k : ℕ). k * 8) e

  module _ (h : length memory < n * 8) where
    is_short : short row memory ≡ true
    unfolding short
    is_short = rw long (lt-ltb (length memory) (n * 8) h)

    pub short_fitted : 9 ≡ fitted row memory
    unfolding fitted
    short_fitted = rw is_short

    pub short_leaves : memory ≡ answered row memory
    short_leaves = sym (untouched (spelled 8 row) memory (rw long h))

    pub short_beside : (old new : List ℕ) → old ≡ beside row memory old new
    unfolding beside
    short_beside old new = rw is_short

  module _ (h : n * 8 ≤ length memory) where
    not_short : short row memory ≡ false
    unfolding short
    not_short = rw long (le-ltb (length memory) (n * 8) h)

    pub long_fitted : 0 ≡ fitted row memory
    unfolding fitted
    long_fitted = rw not_short

    pub long_beside : (old new : List ℕ) → new ≡ beside row memory old new
    unfolding beside
    long_beside old new = rw not_short
