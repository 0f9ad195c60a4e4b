-- What strictly rising words come to: every word is below each that stands behind it. Assumes nothing.
use Prim.Native.Nat.{ℕ, zero, suc, ◌+◌, ◌-◌, ◌≤◌, ◌<◌}
use native.Mathlib.Omega.{arith}
use native.Mathlib.Nat.{add-zero}
use mathlib.Core.Bool.{true}
use mathlib.Core.List.{List}
use mathlib.Core.Path.{◌≡◌}
use mathlib.Core.Logic.{⊎_elim}
use Rattle.basis.proofs.Bounds.{split}
use Rattle.basis.proofs.Cases.{both_left, both_right}
use Rattle.book.specs.Order.{compared, below}
use Rattle.std.specs.declared.cmp.Ordering.TheVariants.{Less}
use Rattle.book.proofs.order.Orders.{is_less_lem, less_less}
use Rattle.book.specs.Contents.{word_at, words_from}
use Rattle.book.specs.Book.{below_next, rising}

module _ (book : List ℕ) where
  -- word i's text
  abbrev pub text : ℕ → List ℕ
  text i = (word_at book i).text

  next_below : (k n : ℕ) → 0 < n → below_next (word_at book k) (words_from book (k + 1) n) ≡ true → compared (text k) (text (k + 1)) ≡ Less
  unfolding below_next words_from below
  next_below k zero h e = absurd (omega arith)
  next_below k (suc n) h e = is_less_lem _ e

  -- each word is below the next
  next_to : (k n i : ℕ) → rising (words_from book k n) ≡ true → k ≤ i → i + 1 < k + n → compared (text i) (text (i + 1)) ≡ Less
  unfolding rising words_from
  next_to k zero i e l h = absurd (omega arith)
  next_to k (suc n) i e l h =
      ⊎_elim
      (λ g. next_to (k + 1) n i (both_right (below_next (word_at book k) (words_from book (k + 1) n)) (rising (words_from book (k + 1) n)) e) (omega arith) (omega arith))
      (λ g. let q : k ≡ i = omega arith in rw (← q) (next_below k n (omega arith) (both_left (below_next (word_at book k) (words_from book (k + 1) n)) (rising (words_from book (k + 1) n)) e)))
      (split k i)

  -- and so below each that is d further on
  further : (n : ℕ) → rising (words_from book 0 n) ≡ true → (i d : ℕ) → i + 1 + d < n → compared (text i) (text (i + 1 + d)) ≡ Less
  further n e i zero h = rw add-zero (next_to 0 n i e (omega arith) (omega arith))
  further n e i (suc d) h =
      let q : i + 1 + d + 1 ≡ i + 1 + suc d = omega arith in
      rw (← q) (less_less (text i) (text (i + 1 + d)) (text (i + 1 + d + 1)) (further n e i d (omega arith)) (next_to 0 n (i + 1 + d) e (omega arith) (omega arith)))

  pub sorted : (n : ℕ) → rising (words_from book 0 n) ≡ true → (i j : ℕ) → i < j → j < n → compared (text i) (text j) ≡ Less
  sorted n e i j l h = let q : i + 1 + (j - (i + 1)) ≡ j = omega arith in rw q at (further n e i (j - (i + 1)) (omega arith))
