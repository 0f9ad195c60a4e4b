-- A single word's fitness. Assumes nothing.
use Prim.Native.Nat.{ℕ, ◌≤◌, ◌<◌}
use mathlib.Core.Bool.{Bool, false}
use mathlib.Core.List.{List}
use mathlib.Core.Logic.{◌⊎◌, ⊎_elim}
use mathlib.Core.Path.{◌≡◌, sym}
use borrow.Author.Tests.{le-leb, lt-leb}
use Rattle.book.specs.Contents.{size_at, word_at}
use Rattle.book.specs.Book.{ascii, sized, flagged, fit}

module _ (book : List ℕ) (k z : ℕ) (d : z ≡ size_at book k) where
  size_is : (word_at book k).size ≡ z
  unfolding word_at
  size_is = sym d

  module _ (f : ℕ) (e : f ≡ (word_at book k).flags) where
    pub fit_word : (1 ≤ z) × (z ≤ 10) × (f ≤ 3) → (t : List ℕ) (r : Bool) → t ≡ (word_at book k).text → r ≡ ascii t → r ≡ fit (word_at book k)
    unfolding fit sized flagged
    fit_word h t r i j = rw (size_is, le-leb 1 z h.0, le-leb z 10 h.1, ← e, le-leb f 3 h.2, ← i, ← j)

    pub unfit_word : ((1 ≤ z) × (z ≤ 10) × (3 < f)) ⊎ (((1 ≤ z) × (10 < z)) ⊎ (z < 1)) → (r : Bool) → r ≡ false → r ≡ fit (word_at book k)
    unfolding fit sized flagged
    unfit_word h r n =
        ⊎_elim
        (λ a. rw (n, size_is, le-leb 1 z a.0, le-leb z 10 a.1, ← e, lt-leb f 3 a.2))
        (λ b. ⊎_elim (λ a. rw (n, size_is, le-leb 1 z a.0, lt-leb z 10 a.1)) (λ a. rw (n, size_is, lt-leb 1 z a)) b)
        h
