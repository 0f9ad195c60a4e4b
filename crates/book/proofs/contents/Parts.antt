-- A book's count, a word's row and its own part, as the code takes them. Assumes nothing.
use Prim.Native.Nat.{ℕ, ◌+◌, ◌-◌, ◌*◌, ◌≤◌, ◌<◌, min}
use native.Mathlib.Omega.{arith}
use native.Mathlib.Nat.{add_comm}
use mathlib.Core.Bool.{Bool, true, false}
use mathlib.Core.List.{List}
use mathlib.Core.Path.{◌≡◌, refl}
use lib.ListN.{length, get_or, take, drop, length-drop}
use lib.Seq.{take-nil}
use mathlib.Core.Logic.{⊎_elim}
use Rattle.std.proofs.lemmas.List.{take_min}
use Rattle.basis.proofs.Bounds.{split}
use Rattle.basis.proofs.Bytes.{past}
use borrow.Author.Tests.{le-leb, lt-leb}
use Rattle.std.specs.Prelude.{Option, None, Some}
use Rattle.basis.specs.Pick.{pick}
use Rattle.book.specs.Contents.{u16_at, word_count, bodies, start_at, size_at, word_at, enough, rows_of, row_of}
use Rattle.book.specs.declared.contents.Row.{Row}

-- the count
module _ (book : List ℕ) where
  pub no_count : length book < 2 → None ≡ rows_of book
  unfolding rows_of enough
  no_count h = rw (lt-leb (bodies book) (length book) (omega arith))

  module _ (n : ℕ) (e : n ≡ u16_at book 0) where
    pub too_short : length book < 2 + 4 * n → None ≡ rows_of book
    unfolding rows_of enough word_count
    too_short h = let g : length book < 2 + 4 * u16_at book 0 = omega arith in rw (lt-leb _ _ g)

    pub has_count : 2 + 4 * n ≤ length book → Some n ≡ rows_of book
    unfolding rows_of enough word_count
    has_count h = let g : 2 + 4 * u16_at book 0 ≤ length book = omega arith in rw (le-leb _ _ g, e)

-- what a count that is told, or is not, says of the book
module _ (book : List ℕ) where
  pub is_short : None ≡ rows_of book → enough book ≡ false
  unfolding rows_of
  is_short e = go (enough book) e
    where
      go : (t : Bool) → ◌≡◌ {A = Option ℕ} None (pick t (Some (word_count book)) None) → t ≡ false
      go true p = cc
      go false p = refl

-- a row that was read
module _ (book : List ℕ) (k : ℕ) (r : Row) where
  pub row_read : (n m : ℕ) → n ≡ word_count book → m ≡ u16_at book (2 + 4 * k) → r.start ≡ 2 + 4 * n + m → r.size ≡ get_or book (2 + 4 * k + 2) 0 → r.flags ≡ get_or book (2 + 4 * k + 3) 0 → r ≡ row_of book k
  unfolding row_of word_at start_at size_at
  row_read n m p q s z f = rw (← p, ← q, ← s, ← z, ← f)

  module _ (e : r ≡ row_of book k) where
    pub row_start : r.start ≡ start_at book k
    unfolding row_of word_at
    row_start = rw e

    pub row_size : r.size ≡ size_at book k
    unfolding row_of word_at
    row_size = rw e

    pub row_flags : r.flags ≡ (word_at book k).flags
    unfolding row_of
    row_flags = rw e

-- a word's own part: from e, the book's end or the body's, back to the body's start or e
module _ (book : List ℕ) (k s z e i : ℕ) (p : s ≡ start_at book k) (d : z ≡ size_at book k) (f : e ≡ min (length book) (s + z)) (g : i ≡ min s e) where
  pub own_part : take (e - i) (drop i book) ≡ (word_at book k).text
  unfolding word_at
  own_part =
      ⊎_elim
      (λ (h : length book < s). let a : e - i ≡ 0 = omega arith in rw (a, ← p, ← d, past book s (omega arith), take-nil))
      (λ (h : s ≤ length book). let a : i ≡ s = omega arith in
      let b : e - i ≡ min z (length (drop s book)) = simp length-drop (omega arith) in
      rw (b, a, ← p, ← d, take_min z (drop s book)))
      (split (length book) s)

-- where it lies
pub lies : (p : ℕ × ℕ) (book : List ℕ) (k s : ℕ) → s ≡ start_at book k → ◌≡◌ {A = ℕ × ℕ} (p.0, s + p.1) (p.0, p.1 + start_at book k)
lies p book k s e = rw (← e, add_comm s)
