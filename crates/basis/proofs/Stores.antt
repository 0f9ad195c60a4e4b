-- Laws of stores, for code that writes into lent memory.
-- Assumes nothing.
use Prim.Native.Nat.{ℕ, zero, suc, ◌+◌, ◌-◌, ◌≤◌, ◌<◌}
use mathlib.Core.Bool.{Bool, true, false}
use mathlib.Core.Path.{◌≡◌, refl, sym, ◌∙◌}
use mathlib.Core.List.{List, [], ◌∷◌, ◌++◌, append_assoc}
use lib.ListN.{length, replicate, set, take, drop, get_or, length-append, take-append-drop}
use lib.Seq.{sets, sets-eq, length-sets, drop-append-le, drop-drop}
use native.Mathlib.Omega.{arith}
use native.Mathlib.Nat.{zero-add, add-zero, add-suc, suc-add}
use native.Mathlib.Numerals.{add-one, sub-one}
use borrow.Author.Tests.{le-leb, lt-leb}
use Rattle.basis.specs.Pick.{pick}
use Rattle.basis.specs.Store.{fits, stored, after, over, Stored}
use Rattle.basis.proofs.Bytes.{here}

-- a run of stores in two parts
pub sets_append : (l : List ℕ) (i : ℕ) (a b : List ℕ) → sets l i (a ++ b) ≡ sets (sets l i a) (i + length a) b
sets_append l i [] b = rw add-zero
sets_append l i (x ∷ a) b = rw (sets_append (set l i x) (suc i) a b, suc-add, add-suc)

-- one store more, at the code's i + 1
pub sets_cons : (l : List ℕ) (i x : ℕ) (b : List ℕ) → sets l i (x ∷ b) ≡ sets (set l i x) (i + 1) b
sets_cons l i x b = rw add-one

-- a run of n equal bytes, by its first
pub replicate_pred : (n b : ℕ) → 0 < n → replicate n b ≡ b ∷ replicate (n - 1) b
replicate_pred zero b h = absurd (omega arith)
replicate_pred (suc n) b h = rw sub-one

-- one turn of a fill, and its end
pub sets_fill : (l : List ℕ) (i n b : ℕ) → 0 < n → sets l i (replicate n b) ≡ sets (set l i b) (i + 1) (replicate (n - 1) b)
sets_fill l i n b h = rw (replicate_pred n b h, add-one)

pub sets_none : (l : List ℕ) (i n b : ℕ) → n ≤ 0 → sets l i (replicate n b) ≡ l
sets_none l i zero b h = refl
sets_none l i (suc n) b h = absurd (omega arith)

-- one turn of a copy
pub sets_drop : (l : List ℕ) (w : ℕ) (src : List ℕ) (i : ℕ) → i < length src → sets l w (drop i src) ≡ sets (set l w (get_or src i 0)) (w + 1) (drop (i + 1) src)
sets_drop l w src i h = rw (here src i h, add-one w)

-- two stores, one behind the other
pub and_then : {l l' l'' a b : List ℕ} {i n r m q : ℕ} → Stored l i n a r l' → Stored l' r m b q l'' → Stored l i (n + m) (a ++ b) q l''
and_then {l} {l'} {l''} {a} {b} {i} {n} {r} {m} {q} s t = record {
  count = simp (length-append, s.count, t.count);
  next = omega arith;
  memory = rw (t.memory, s.memory, s.next, ← s.count, ← sets_append l i a b);
}

-- stores from the front leave the bytes and the old rest
pub sets_front : (l xs : List ℕ) → length xs ≤ length l → sets l 0 xs ≡ over xs l
sets_front l xs h = rw (sets-eq xs l 0 (omega arith), zero-add)

-- what is stored in a part of a memory, said of the whole
pub part_sets : (a k : ℕ) (l xs : List ℕ) → a + length xs ≤ length l → length xs ≤ length (take k (drop a l))
    → take a l ++ (sets (take k (drop a l)) 0 xs ++ drop k (drop a l)) ≡ sets l a xs
part_sets a k l xs h g =
    rw (
      sets_front (take k (drop a l)) xs g,
      sets-eq xs l a h,
      append_assoc xs (drop (length xs) (take k (drop a l))) (drop k (drop a l)),
      ← drop-append-le (length xs) (take k (drop a l)) (drop k (drop a l)) g,
      take-append-drop k (drop a l),
      drop-drop (length xs) a l,
    )
    (sym (append_assoc (take a l) xs (drop (a + length xs) l)))

-- a store that has room, and one that has none
module _ (l : List ℕ) (i : ℕ) (xs : List ℕ) where
  module _ (h : i + length xs ≤ length l) where
    pub stored_whole : stored l i xs ≡ sets l i xs
    unfolding stored fits
    stored_whole = rw (le-leb (i + length xs) (length l) h)

    pub after_whole : after l i xs ≡ i + length xs
    unfolding after fits
    after_whole = rw (le-leb (i + length xs) (length l) h)

  module _ (h : length l < i + length xs) where
    pub stored_none : stored l i xs ≡ l
    unfolding stored fits
    stored_none = rw (lt-leb (i + length xs) (length l) h)

    pub after_none : after l i xs ≡ i
    unfolding after fits
    after_none = rw (lt-leb (i + length xs) (length l) h)

-- a store leaves the memory as long as it was
pub length_stored : (l : List ℕ) (i : ℕ) (xs : List ℕ) → length (stored l i xs) ≡ length l
unfolding stored
length_stored l i xs = by (fits l i xs)
  where
    by : (b : Bool) → length (pick b (sets l i xs) l) ≡ length l
    by true = length-sets l i xs
    by false = refl

-- what a writer of xs tells, where there is room
pub whole : (l : List ℕ) (i : ℕ) (xs : List ℕ) {r : ℕ} {l' : List ℕ} → r ≡ after l i xs → l' ≡ stored l i xs → i + length xs ≤ length l → Stored l i (length xs) xs r l'
whole l i xs e f h = record { count = refl; next = e ∙ after_whole l i xs h; memory = f ∙ stored_whole l i xs h }
