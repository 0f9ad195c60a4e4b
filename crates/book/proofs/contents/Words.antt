-- A book's words one by one. Assumes nothing.
use Prim.Native.Nat.{ℕ, suc, ◌+◌, ◌-◌, ◌≤◌, ◌<◌}
use native.Mathlib.Omega.{arith}
use native.Mathlib.Nat.{sub-zero}
use mathlib.Core.List.{List, [], ◌∷◌}
use mathlib.Core.Path.{◌≡◌}
use Rattle.book.specs.Contents.{word_count, word_at, words_from, words}

module _ (book : List ℕ) where
  -- the words from k on, by the first of them
  module _ (n k : ℕ) where
    pub from_here : k < n → words_from book k (n - k) ≡ word_at book k ∷ words_from book (k + 1) (n - (k + 1))
    unfolding words_from
    from_here h = let e : n - k ≡ suc (n - (k + 1)) = omega arith in rw e

    pub from_past : n ≤ k → words_from book k (n - k) ≡ []
    unfolding words_from
    from_past h = let e : n - k ≡ 0 = omega arith in rw e

  pub from_start : {n : ℕ} → n ≡ word_count book → words book ≡ words_from book 0 (n - 0)
  unfolding words
  from_start e = rw (sub-zero, e)
