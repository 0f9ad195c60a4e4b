-- A byte and a range: what the test says, and how it comes out.
-- Assumes nothing.
use Prim.Native.Nat.{ℕ, ◌≤◌, ◌<◌}
use mathlib.Core.Bool.{true, false}
use mathlib.Core.Logic.{⊎_elim}
use mathlib.Core.Path.{◌≡◌}
use lib.Dec.{leb}
use borrow.Author.Tests.{leb-true, le-leb, lt-leb}
use Rattle.basis.proofs.Bounds.{split}
use Rattle.basis.proofs.Cases.{both_left, both_right}
use Rattle.utf8.specs.Table.{Range, within}

module _ (r : Range) (b : ℕ) where
  pub within_low : within r b ≡ true → r.low ≤ b
  within_low e = leb-true r.low b (both_left (leb r.low b) (leb b r.high) e)

  pub within_high : within r b ≡ true → b ≤ r.high
  within_high e = leb-true b r.high (both_right (leb r.low b) (leb b r.high) e)

  pub is_within : r.low ≤ b → b ≤ r.high → within r b ≡ true
  is_within h g = rw (le-leb r.low b h, le-leb b r.high g)

  pub is_below : b < r.low → within r b ≡ false
  is_below g = rw (lt-leb r.low b g)

  pub is_above : r.high < b → within r b ≡ false
  is_above g = ⊎_elim is_below (λ k. rw (le-leb r.low b k, lt-leb b r.high g)) (split b r.low)
