-- What a search found lies in its book, and which part of which book the lookup over two books hands back. Assumes nothing.
use Prim.Native.Nat.{ℕ, zero, suc, ◌+◌, ◌≤◌, ◌<◌}
use native.Mathlib.Omega.{arith}
use native.Mathlib.Nat.{zero-add}
use mathlib.Core.Bool.{Bool, true, false}
use mathlib.Core.List.{List, []}
use mathlib.Core.Path.{◌≡◌, refl, sym, ◌∙◌}
use mathlib.Core.Logic.{◌⊎◌, ⊎_elim}
use lib.Dec.{eqb}
use lib.ListN.{length}
use borrow.Author.Tests.{eqb-true}
use Rattle.basis.specs.Pick.{both}
use Rattle.basis.proofs.Bounds.{split}
use Rattle.basis.proofs.Cases.{both_left, both_right}
use Rattle.book.specs.Contents.{word_count, bodies, start_at, size_at, word_at, words_from, words, rows_of}
use Rattle.book.proofs.contents.Parts.{is_short}
use Rattle.book.specs.Book.{runs_on, good, check_of}
use Rattle.book_lookup.specs.Lookup.{in_house, in_office, hit_answer, flags_answer, reserved_of, either_book, holder_of, held_part, held_place, found_part, found_place}
use Rattle.book_lookup.specs.Seek.{sought_of}
use Rattle.book_lookup.specs.Halving.{sought_hit, halved_of}
use Rattle.std.specs.Prelude.{Option, None, Some, Ok, Err}
use Rattle.std.specs.Result.{result_ok}
use Rattle.lex_error.specs.Numbers.{Asked, no_refusal}
use Rattle.std.specs.Option.{is_some, option_map}
use Rattle.book_lookup.specs.declared.Reserved.{Reserved}
use Rattle.book.proofs.Checks.{check_good, check_bad}
use Rattle.book_lookup.proofs.Holds.{good_enough, good_runs, halved_first, halved}

-- the answer with no check
module _ (book w : List ℕ) where
  pub says_none : None ≡ rows_of book → None ≡ halved_of book w
  unfolding halved_of sought_of sought_hit hit_answer
  says_none p = rw (is_short book p)

  module _ (f : Option ℕ) (e : f ≡ sought_of book w) where
    pub says_nothing : f ≡ None → None ≡ halved_of book w
    unfolding halved_of sought_hit hit_answer
    says_nothing p = rw (← e, p)

    pub says_flags : (k n : ℕ) (r : Reserved) → f ≡ Some k → n ≡ (word_at book k).flags → r ≡ flags_answer n → Some r ≡ halved_of book w
    unfolding halved_of sought_hit hit_answer
    says_flags k n r p q a = rw (← e, p, ← q, a)

-- the answer of a book that is checked
module _ (book w : List ℕ) (a : Asked) (e : a ≡ check_of book) (o : Option (Unit {0})) (d : o ≡ result_ok a) where
  bad_book : o ≡ None → good book ≡ false
  bad_book p = by a e d
    where
      by : (x : Asked) → x ≡ check_of book → o ≡ result_ok x → good book ≡ false
      by (Ok u) f g = let q : ◌≡◌ {A = Option (Unit {0})} None (Some u) = sym p ∙ g in cc
      by (Err r) f g = check_bad book f

  good_book : {u : Unit {0}} → o ≡ Some u → good book ≡ true
  good_book {u} p = by a e d
    where
      by : (x : Asked) → x ≡ check_of book → o ≡ result_ok x → good book ≡ true
      by (Ok tt) f g = check_good book no_refusal f refl
      by (Err r) f g = let q : ◌≡◌ {A = Option (Unit {0})} (Some u) None = sym p ∙ g in cc

  pub bad_says_nothing : o ≡ None → None ≡ reserved_of book w
  unfolding reserved_of
  bad_says_nothing p = rw (bad_book p)

  pub good_says : {u : Unit {0}} (r : Option Reserved) → o ≡ Some u → r ≡ halved_of book w → r ≡ reserved_of book w
  good_says r p q = q ∙ halved book (good_book p) w

-- a good book has contents, and a bad one is asked for none
module _ (book : List ℕ) (a : Asked) (d : a ≡ check_of book) (q : Option (Unit {0})) (h : q ≡ result_ok a) where
  pub bad_has : q ≡ None → false ≡ good book
  bad_has p = sym (bad_book book [] a d q h p)

  pub good_has : {u : Unit {0}} {A : Type 0} (f : A → ℕ) (o : Option A) → option_map f o ≡ rows_of book → q ≡ Some u → is_some o ≡ good book
  unfolding rows_of
  good_has {A} f o e p = let g = good_book book [] a d q h p in rw g (go o (rw (good_enough book g) at e))
    where
      go : (x : Option A) → option_map f x ≡ Some (word_count book) → is_some x ≡ true
      go None q = cc
      go (Some y) q = refl

-- bodies that run on start within the book
runs_within : (book : List ℕ) (end k n at : ℕ) → runs_on end at (words_from book k n) ≡ true → (at ≤ end) × ((i : ℕ) → k ≤ i → i < k + n → start_at book i ≤ end)
unfolding runs_on words_from word_at
runs_within book end k zero at e = (omega (arith, eqb-true at end e), λ i l h. absurd (omega arith))
runs_within book end k (suc n) at e =
    let q : start_at book k ≡ at = eqb-true (start_at book k) at (both_left (eqb (start_at book k) at) _ e) in
    let r = runs_within book end (k + 1) n (at + size_at book k) (both_right (eqb (start_at book k) at) _ e) in
    let first : start_at book k ≤ end = omega (arith, r.0, q) in
    (omega (arith, r.0), λ i l h. ⊎_elim (λ (a : k < i). r.1 i (omega arith) (omega arith)) (λ (a : i ≤ k). let p : i ≡ k = omega arith in rw p first) (split k i))

pub starts_within : (book : List ℕ) → good book ≡ true → (k : ℕ) → k < word_count book → start_at book k ≤ length book
unfolding words
starts_within book g k h = (runs_within book (length book) 0 (word_count book) (bodies book) (good_runs book g)).1 k (omega arith) (omega arith)

-- the lookup over two books: one is bad, or the house book holds the word, or the office's does, or neither
module _ (house office w : List ℕ) where
  module _ (t : (good house ≡ false) ⊎ (good office ≡ false)) where
    one_bad : both (good house) (good office) ≡ false
    one_bad = ⊎_elim (λ a. rw a) (λ a. rw a (go (good house))) t
      where
        go : (g : Bool) → both g false ≡ false
        go true = refl
        go false = refl

    pub bad_part : ◌≡◌ {A = List ℕ} [] (found_part house office w)
    unfolding found_part holder_of held_part
    bad_part = rw one_bad

    pub bad_place : (hp op : ℕ × ℕ) → ◌≡◌ {A = ℕ × ℕ} (hp.0, 0 + hp.1) (found_place hp op house office w)
    unfolding found_place holder_of held_place
    bad_place hp op = rw (one_bad, zero-add)

  module _ (good_house : good house ≡ true) (good_office : good office ≡ true) (f : Option ℕ) (e : f ≡ sought_of house w) where
    held : holder_of house office w ≡ either_book (sought_hit house f) (sought_hit office (sought_of office w))
    unfolding holder_of
    held = rw (good_house, good_office, halved_first house good_house w, halved_first office good_office w, ← e)

    module _ (k : ℕ) (p : f ≡ Some k) where
      held_house : holder_of house office w ≡ in_house (word_at house k)
      unfolding either_book sought_hit
      held_house = rw (held, p)

      pub house_part : (r : List ℕ) → r ≡ (word_at house k).text → r ≡ found_part house office w
      unfolding found_part held_part
      house_part r i = rw (held_house, i)

      pub house_place : (hp op rp : ℕ × ℕ) → (n : ℕ) → n ≡ word_count house → k < n → (start_at house k ≤ length house → rp ≡ (hp.0, hp.1 + start_at house k)) → rp ≡ found_place hp op house office w
      unfolding found_place held_place word_at
      house_place hp op rp n m l i = rw held_house (i (starts_within house good_house k (omega arith)))

    module _ (n : f ≡ None) (g : Option ℕ) (d : g ≡ sought_of office w) where
      pub no_part : g ≡ None → ◌≡◌ {A = List ℕ} [] (found_part house office w)
      unfolding found_part either_book sought_hit held_part
      no_part p = rw (held, n, ← d, p)

      pub no_place : (hp op : ℕ × ℕ) → g ≡ None → ◌≡◌ {A = ℕ × ℕ} (hp.0, 0 + hp.1) (found_place hp op house office w)
      unfolding found_place either_book sought_hit held_place
      no_place hp op p = rw (held, n, ← d, p, zero-add)

      module _ (j : ℕ) (p : g ≡ Some j) where
        held_office : holder_of house office w ≡ in_office (word_at office j)
        unfolding either_book sought_hit
        held_office = rw (held, n, ← d, p)

        pub office_part : (r : List ℕ) → r ≡ (word_at office j).text → r ≡ found_part house office w
        unfolding found_part held_part
        office_part r i = rw (held_office, i)

        pub office_place : (hp op rp : ℕ × ℕ) → (c : ℕ) → c ≡ word_count office → j < c → (start_at office j ≤ length office → rp ≡ (op.0, op.1 + start_at office j)) → rp ≡ found_place hp op house office w
        unfolding found_place held_place word_at
        office_place hp op rp c m l i = rw held_office (i (starts_within office good_office j (omega arith)))
