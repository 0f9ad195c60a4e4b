-- Turns of the loops over a book's words. Assumes nothing.
use Prim.Native.Nat.{ℕ, zero, suc, ◌+◌, ◌-◌, ◌*◌, ◌≤◌, ◌<◌}
use native.Mathlib.Omega.{arith}
use mathlib.Core.Bool.{Bool, true, false, ◌&&◌}
use mathlib.Core.List.{List}
use mathlib.Core.Path.{◌≡◌, refl, sym, ◌∙◌}
use lib.Dec.{eqb}
use lib.ListN.{length}
use borrow.Author.Tests.{eq-eqb, ne_eqb}
use Rattle.std.specs.List.{list_all, range_with_len}
use Rattle.book.specs.Order.{compared, below}
use Rattle.std.specs.Ordering.{is_lt}
use Rattle.basis.specs.Pick.{both}
use Rattle.book.specs.Contents.{word_count, bodies, start_at, size_at, word_at, words_from, words}
use Rattle.book.proofs.contents.Words.{from_here, from_past, from_start}
use Rattle.book.specs.Book.{runs_on, fit, all_fit, below_next, rising}

-- the first k of n words run on, up to the index at
pub record Running (book : List ℕ) (n at k : ℕ) : Type 0 where
  pub all : n ≡ word_count book
  pub some : n < 65536
  pub within : k ≤ n
  pub small : at ≤ 2 + 4 * n + 255 * k
  pub rest : runs_on (length book) (bodies book) (words book) ≡ runs_on (length book) at (words_from book k (n - k))

module _ (book : List ℕ) (n : ℕ) where
  pub running_start : n ≡ word_count book → n < 65536 → Running book n (2 + 4 * n) 0
  running_start e h = record {
    all = e;
    some = h;
    within = omega arith;
    small = omega arith;
    rest = rw (from_start book e, e);
  }

  module _ (at k : ℕ) (r : Running book n at k) where
    pub running_end : n ≤ k → eqb at (length book) ≡ runs_on (length book) (bodies book) (words book)
    unfolding runs_on
    running_end h = sym (r.rest ∙ rw (from_past book n k h))

    module _ (h : k < n) (s : ℕ) (e : s ≡ start_at book k) where
      pub gap : (s ≡ at → ⊥) → false ≡ runs_on (length book) (bodies book) (words book)
      unfolding runs_on word_at
      gap g = sym (r.rest ∙ rw (from_here book n k h, ← e, ne_eqb _ _ g))

      pub running_next : (z : ℕ) → s ≡ at → z ≡ size_at book k → z < 256 → Running book n (at + z) (k + 1)
      unfolding runs_on word_at
      running_next z g d l = record {
        all = r.all;
        some = r.some;
        within = omega arith;
        small = omega arith;
        rest = r.rest ∙ rw (from_here book n k h, ← e, eq-eqb _ _ g, ← d);
      }

-- two tests and their lists' joined
ands : (t : Bool) {a b : Bool} → a ≡ b → (t && a) ≡ both t b
ands true e = e
ands false e = refl

-- the words are fit if each of the book's first n is
fits_from : (book : List ℕ) (k n : ℕ) → list_all (λ i. fit (word_at book i)) (range_with_len k n) ≡ all_fit (words_from book k n)
unfolding all_fit words_from
fits_from book k zero = refl
fits_from book k (suc n) = ands (fit (word_at book k)) (fits_from book (k + 1) n)

pub each_fits : (book : List ℕ) (n : ℕ) → n ≡ word_count book → list_all (λ i. fit (word_at book i)) (range_with_len 0 n) ≡ all_fit (words book)
unfolding words
each_fits book n e = rw (← e) (fits_from book 0 n)

-- the words rise if each but the first is above the one before it
abbrev pub is_above : List ℕ → ℕ → Bool
is_above book i = is_lt (compared (word_at book (i - 1)).text (word_at book i).text)

rises_from : (book : List ℕ) (k n : ℕ) → list_all (is_above book) (range_with_len (k + 1) n) ≡ rising (words_from book k (suc n))
unfolding rising below_next below words_from
rises_from book k zero = refl
rises_from book k (suc n) = let q : k + 1 - 1 ≡ k = omega arith in rw q (ands (is_lt (compared (word_at book k).text (word_at book (k + 1)).text)) (rises_from book (k + 1) n))

each_from : (book : List ℕ) (n : ℕ) → list_all (is_above book) (range_with_len 1 (n - 1)) ≡ rising (words_from book 0 n)
unfolding rising words_from
each_from book zero = refl
each_from book (suc m) = let q : suc m - 1 ≡ m = omega arith in rw q (rises_from book 0 m)

pub each_rises : (book : List ℕ) (n : ℕ) → n ≡ word_count book → list_all (is_above book) (range_with_len 1 (n - 1)) ≡ rising (words book)
unfolding words
each_rises book n e = rw (← e) (each_from book n)
