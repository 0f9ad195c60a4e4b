-- The book check, condition by condition, and what it says of a book. Assumes nothing.
use Prim.Native.Nat.{ℕ, ◌≤◌, ◌<◌}
use mathlib.Core.Bool.{Bool, true, false}
use mathlib.Core.List.{List}
use mathlib.Core.Path.{◌≡◌, refl, sym, ◌∙◌}
use lib.Dec.{leb}
use lib.ListN.{length}
use borrow.Author.Tests.{le-leb, lt-leb}
use Rattle.std.specs.Prelude.{None}
use Rattle.basis.specs.Pick.{pick}
use Rattle.book.specs.Contents.{word_count, bodies, words, enough, rows_of}
use Rattle.book.proofs.contents.Parts.{is_short}
use Rattle.std.specs.Prelude.{Err}
use Rattle.lex_error.specs.declared.LexError.{LexError}
use Rattle.lex_error.specs.declared.LexError.TheVariants.{BadBook}
use Rattle.lex_error.specs.Numbers.{Asked, no_refusal}
use Rattle.book.specs.Book.{few, runs_on, all_fit, rising, good, check_of}

few_is : (book : List ℕ) {n : ℕ} → n ≡ word_count book → few book ≡ leb n 512
unfolding few
few_is book e = rw e

module _ (book : List ℕ) where
  pub not_enough : None ≡ rows_of book → Err BadBook ≡ check_of book
  unfolding check_of good
  not_enough g = rw (is_short book g)

  module _ (l : bodies book ≤ length book) (n : ℕ) (c : n ≡ word_count book) where
    full : enough book ≡ true
    unfolding enough
    full = le-leb (bodies book) (length book) l

    pub too_many : 512 < n → Err BadBook ≡ check_of book
    unfolding check_of good
    too_many g = rw (full, few_is book c, lt-leb n 512 g)

    module _ (h : n ≤ 512) (r : Bool) (d : r ≡ runs_on (length book) (bodies book) (words book)) where
      pub not_running : r ≡ false → Err BadBook ≡ check_of book
      unfolding check_of good
      not_running g = rw (full, few_is book c, le-leb n 512 h, ← d, g)

      module _ (z : r ≡ true) (f : Bool) (b : f ≡ all_fit (words book)) where
        pub not_all_fit : f ≡ false → Err BadBook ≡ check_of book
        unfolding check_of good
        not_all_fit g = rw (full, few_is book c, le-leb n 512 h, ← d, z, ← b, g)

        module _ (a : f ≡ true) (u : Bool) (i : u ≡ rising (words book)) where
          pub not_rising : u ≡ false → Err BadBook ≡ check_of book
          unfolding check_of good
          not_rising g = rw (full, few_is book c, le-leb n 512 h, ← d, z, ← b, a, ← i, g)

          pub all_right : u ≡ true → no_refusal ≡ check_of book
          unfolding check_of good
          all_right g = rw (full, few_is book c, le-leb n 512 h, ← d, z, ← b, a, ← i, g)

-- the checks of a run: a book is good, or bad
pub check_good : (book : List ℕ) (r : Asked) → r ≡ check_of book → r ≡ no_refusal → good book ≡ true
unfolding check_of
check_good book r e z = go (good book) (sym z ∙ e)
  where
    go : (t : Bool) → no_refusal ≡ pick t no_refusal (Err BadBook) → t ≡ true
    go true p = refl
    go false p = cc

pub check_bad : (book : List ℕ) {f : LexError} → Err f ≡ check_of book → good book ≡ false
unfolding check_of
check_bad book {f} e = go (good book) e
  where
    go : (t : Bool) → Err f ≡ pick t no_refusal (Err BadBook) → t ≡ false
    go true p = cc
    go false p = refl
