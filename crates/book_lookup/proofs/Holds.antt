-- A word is found exactly if the book holds it: the search by halving finds what stands among the words of a good book, and nothing else. Assumes nothing.
use Prim.Native.Nat.{ℕ, zero, suc, ◌+◌, ◌-◌, ◌/◌, ◌≤◌, ◌<◌}
use native.Mathlib.Omega.{arith}
use mathlib.Core.Bool.{Bool, true, false}
use mathlib.Core.List.{List, [], ◌∷◌}
use mathlib.Core.Path.{◌≡◌, refl, fun_ext}
use mathlib.Core.Logic.{◌↔◌, ◌⊎◌, inl, inr, ⊎_elim}
use lib.ListN.{length}
use lib.Dec.{ltb}
use borrow.Author.Tests.{ltb-true, ltb-false}
use Rattle.basis.specs.Pick.{pick}
use Rattle.basis.proofs.Bounds.{split}
use Rattle.basis.proofs.Cases.{pick_cases, not_both, both_left, both_right}
use Rattle.book.specs.Order.{compared, same}
use Rattle.book.specs.Contents.{BookWord, word_count, bodies, word_at, words_from, words, enough}
use Rattle.book.specs.Book.{few, runs_on, all_fit, rising, good}
use Rattle.book_lookup.specs.Lookup.{Stands, first_hit, flags_answer, hit_answer, reserved_of}
use Rattle.book_lookup.specs.Seek.{middle, narrowed, sought_in, sought_of}
use Rattle.book_lookup.specs.Halving.{sought_hit, halved_of}
use Rattle.std.specs.declared.cmp.Ordering.{Ordering}
use Rattle.std.specs.declared.cmp.Ordering.TheVariants.{Less, Equal, Greater}
use Rattle.std.specs.Ordering.{is_eq}
use Rattle.std.specs.Option.{is_some}
use Rattle.std.specs.Prelude.{Option, None, Some}
use Rattle.book.proofs.order.Orders.{not_less_greater, not_less_equal, not_greater_equal, equal_self, equal_is, less_less}
use Rattle.book_lookup.proofs.Sorted.{text, sorted}

module _ (book w : List ℕ) where
  -- word i is not w
  abbrev pub Other : ℕ → Type 0
  Other i = compared (text book i) w ≡ Equal → ⊥

  -- what a search from lo up to hi should answer
  abbrev Right : ℕ → ℕ → Option ℕ → Type 0
  Right lo hi (Some k) = (lo ≤ k) × (k < hi) × (compared (text book k) w ≡ Equal)
  Right lo hi None = (i : ℕ) → lo ≤ i → i < hi → Other i

  -- a search of a part, where the word is not in the rest
  right_before : (lo mid hi : ℕ) (f : Option ℕ) → mid ≤ hi → Right lo mid f → ((i : ℕ) → mid ≤ i → i < hi → Other i) → Right lo hi f
  right_before lo mid hi (Some k) h r o = (r.0, omega (arith, r.1), r.2)
  right_before lo mid hi None h r o = λ i l g. ⊎_elim (λ a. r i l a) (λ a. o i a g) (split i mid)

  right_behind : (lo mid hi : ℕ) (f : Option ℕ) → lo ≤ mid → Right mid hi f → ((i : ℕ) → lo ≤ i → i < mid → Other i) → Right lo hi f
  right_behind lo mid hi (Some k) h r o = (omega (arith, r.0), r.1, r.2)
  right_behind lo mid hi None h r o = λ i l g. ⊎_elim (λ a. o i l a) (λ a. r i a g) (split i mid)

  module _ (n : ℕ) (e : rising (words_from book 0 n) ≡ true) where
    -- where the middle is below w, so is all before it; where it is above w, so is all behind it
    below_middle : (mid : ℕ) → mid < n → compared (text book mid) w ≡ Less → (i : ℕ) → i < mid + 1 → Other i
    below_middle mid h c i l p =
        ⊎_elim
        (λ a. not_less_equal (less_less (text book i) (text book mid) w (sorted book n e i mid a h) c) p)
        (λ a. let q : i ≡ mid = omega arith in not_less_equal c (rw q at p))
        (split i mid)

    above_middle : (mid : ℕ) → compared (text book mid) w ≡ Greater → (i : ℕ) → mid ≤ i → i < n → Other i
    above_middle mid c i l h p =
        ⊎_elim
        (λ a. not_less_greater (rw (equal_is (text book i) w p) at (sorted book n e mid i a h)) c)
        (λ a. let q : i ≡ mid = omega arith in not_greater_equal c (rw q at p))
        (split mid i)

    in_turn : (lo mid hi : ℕ) (on : ℕ → ℕ → Option ℕ) (o : Ordering) → compared (text book mid) w ≡ o → lo ≤ mid → mid < hi → hi ≤ n
        → Right (mid + 1) hi (on (mid + 1) hi) → Right lo mid (on lo mid) → Right lo hi (narrowed o lo mid hi on)
    in_turn lo mid hi on Less c l h m r s = right_behind lo (mid + 1) hi (on (mid + 1) hi) (omega arith) r (λ i a g. below_middle mid (omega arith) c i g)
    in_turn lo mid hi on Equal c l h m r s = (l, h, c)
    in_turn lo mid hi on Greater c l h m r s = right_before lo mid hi (on lo mid) (omega arith) s (λ i a g. above_middle mid c i a (omega arith))

    in_right : (f lo hi : ℕ) → hi ≤ n → hi ≤ lo + f → Right lo hi (sought_in f book w lo hi)
    unfolding sought_in middle
    in_right zero lo hi m h = λ i l g. absurd (omega arith)
    in_right (suc f) lo hi m h =
        pick_cases (Right lo hi) (ltb lo hi) _ _
        (λ t. let l : lo < hi = ltb-true lo hi t in
        in_turn lo (lo + (hi - lo) / 2) hi (λ a b. sought_in f book w a b) _ refl (omega arith) (omega arith) m
        (in_right f (lo + (hi - lo) / 2 + 1) hi m (omega arith))
        (in_right f lo (lo + (hi - lo) / 2) (omega arith) (omega arith)))
        (λ t. let l : hi ≤ lo = ltb-false lo hi t in λ i a g. absurd (omega arith))

-- a test for Equal that fails
is_other : (o : Ordering) → (o ≡ Equal → ⊥) → is_eq o ≡ false
is_other Less h = refl
is_other Equal h = absurd (h refl)
is_other Greater h = refl

module _ (book w : List ℕ) where
  not_same : (i : ℕ) → Other book w i → same (text book i) w ≡ false
  unfolding same
  not_same i h = is_other (compared (text book i) w) h

  is_same : (i : ℕ) → compared (text book i) w ≡ Equal → same (text book i) w ≡ true
  unfolding same
  is_same i h = rw h

  -- the first of n words from k on that is w, where that is word j
  first_hit_lem : (k n j : ℕ) → k ≤ j → j < k + n → compared (text book j) w ≡ Equal → ((i : ℕ) → k ≤ i → i < j → Other book w i) → first_hit w (words_from book k n) ≡ Some (word_at book j)
  unfolding first_hit words_from
  first_hit_lem k zero j l h c o = absurd (omega arith)
  first_hit_lem k (suc n) j l h c o =
      ⊎_elim
      (λ a. rw (not_same k (o k (omega arith) a)) (first_hit_lem (k + 1) n j (omega arith) (omega arith) c (λ i b. o i (omega arith))))
      (λ a. let q : k ≡ j = omega arith in rw (q, is_same j c))
      (split k j)

  -- and where none is
  first_none : (k n : ℕ) → ((i : ℕ) → k ≤ i → i < k + n → Other book w i) → first_hit w (words_from book k n) ≡ None
  unfolding first_hit words_from
  first_none k zero o = refl
  first_none k (suc n) o = rw (not_same k (o k (omega arith) (omega arith))) (first_none (k + 1) n (λ i a h. o i (omega arith) (omega arith)))

  -- so a right search answers the first
  first_right : (n : ℕ) → rising (words_from book 0 n) ≡ true → (f : Option ℕ) → Right book w 0 n f → first_hit w (words_from book 0 n) ≡ sought_hit book f
  unfolding sought_hit
  first_right n e (Some k) r = first_hit_lem 0 n k (omega arith) (omega (arith, r.1)) r.2 earlier
    where
      earlier : (i : ℕ) → 0 ≤ i → i < k → Other book w i
      earlier i l h p = not_less_equal (sorted book n e i k h r.1) (rw (equal_is (text book i) w p, equal_is (text book k) w r.2) (equal_self w))
  first_right n e None r = first_none 0 n (λ i a h. r i a (omega arith))

-- what a good book is, one by one
module _ (book : List ℕ) (g : good book ≡ true) where
  pub good_enough : enough book ≡ true
  unfolding good
  good_enough = both_left (enough book) _ g

  pub good_runs : runs_on (length book) (bodies book) (words book) ≡ true
  unfolding good
  good_runs = both_left (runs_on (length book) (bodies book) (words book)) _ (both_right (few book) _ (both_right (enough book) _ g))

  good_rising : rising (words book) ≡ true
  unfolding good
  good_rising = both_right (all_fit (words book)) _ (both_right (runs_on (length book) (bodies book) (words book)) _ (both_right (few book) _ (both_right (enough book) _ g)))

  -- HALVING FINDS THE FIRST ENTRY THAT IS THE WORD
  pub halved_first : (w : List ℕ) → first_hit w (words book) ≡ sought_hit book (sought_of book w)
  unfolding words sought_of
  halved_first w = rw good_enough (first_right book w (word_count book) good_rising (sought_in (word_count book) book w 0 (word_count book)) (in_right book w (word_count book) good_rising (word_count book) 0 (word_count book) (omega arith) (omega arith)))

  -- the lookup with no check is the lookup
  pub halved : (w : List ℕ) → halved_of book w ≡ reserved_of book w
  unfolding halved_of reserved_of
  halved w = rw (g, halved_first w)

  pub halved_whole : halved_of book ≡ reserved_of book
  halved_whole = fun_ext halved

  -- each word of a good book is found with its own flags
  pub own_answer : (k : ℕ) → k < word_count book → reserved_of book (text book k) ≡ Some (flags_answer (word_at book k).flags)
  unfolding reserved_of words hit_answer
  own_answer k h = rw (g, first_hit_lem book (text book k) 0 (word_count book) k (omega arith) (omega arith) (equal_self (text book k)) (λ i l a. not_less_equal (sorted book (word_count book) good_rising i k a h)))

-- texts that are the same are one
is_equal_lem : (o : Ordering) → is_eq o ≡ true → o ≡ Equal
is_equal_lem Less e = absurd (let z : ◌≡◌ {A = ℕ} 0 1 = cc in omega arith)
is_equal_lem Equal e = refl
is_equal_lem Greater e = absurd (let z : ◌≡◌ {A = ℕ} 0 1 = cc in omega arith)

same_is : (v w : List ℕ) → same v w ≡ true → v ≡ w
unfolding same
same_is v w e = equal_is v w (is_equal_lem (compared v w) e)

same_own : (v w : List ℕ) → v ≡ w → same v w ≡ true
unfolding same
same_own v w e = rw (e, equal_self w)

-- FOUND EXACTLY IF THE BOOK HOLDS IT
module _ (w : List ℕ) where
  stands_some : (es : List BookWord) → Stands w es → is_some (first_hit w es) ≡ true
  unfolding Stands first_hit
  stands_some [] s = absurd s
  stands_some (e ∷ es) s = pick_cases (λ h. is_some h ≡ true) (same e.text w) (Some e) (first_hit w es) (λ t. refl) (λ t. ⊎_elim (λ q. not_both (same_own e.text w q) t) (λ r. stands_some es r) s)

  some_stands : (es : List BookWord) → is_some (first_hit w es) ≡ true → Stands w es
  unfolding Stands first_hit
  some_stands [] s = not_both s refl
  some_stands (e ∷ es) s = go (same e.text w) refl s (some_stands es)
    where
      go : (t : Bool) → same e.text w ≡ t → is_some (pick t (Some e) (first_hit w es)) ≡ true → (is_some (first_hit w es) ≡ true → Stands w es) → (e.text ≡ w) ⊎ Stands w es
      go true q s r = inl (same_is e.text w q)
      go false q s r = inr (r s)

  answered : (h : Option BookWord) → is_some (hit_answer h) ≡ is_some h
  unfolding hit_answer
  answered (Some e) = refl
  answered None = refl

pub found_exactly : (book w : List ℕ) → (is_some (reserved_of book w) ≡ true) ↔ ((good book ≡ true) × Stands w (words book))
unfolding reserved_of
found_exactly book w = (go (good book) refl, λ h. rw (h.0, answered w (first_hit w (words book))) (stands_some w (words book) h.1))
  where
    go : (t : Bool) → good book ≡ t → is_some (pick t (hit_answer (first_hit w (words book))) None) ≡ true → (good book ≡ true) × Stands w (words book)
    go true g p = (g, some_stands w (words book) (rw (answered w (first_hit w (words book))) at p))
    go false g p = not_both p refl
