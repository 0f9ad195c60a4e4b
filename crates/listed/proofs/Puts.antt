-- A text put together piece by piece. Assumes nothing.
use Rattle.std.specs.Prelude.{Err, Ok}
use Prim.Native.Nat.{ℕ, ◌+◌, ◌-◌, ◌≤◌, ◌<◌}
use native.Mathlib.Omega.{arith}
use mathlib.Core.List.{List, [], ◌∷◌, ◌++◌}
use mathlib.Core.Path.{◌≡◌, refl, sym, ap, ◌∙◌, subst}
use mathlib.Core.Logic.{⊎_elim}
use lib.ListN.{length, take, drop, length-take, length-drop, take-append-drop}
use borrow.Rule.Slice.PartMut.{put_mid}
use Rattle.basis.specs.Store.{stored, after}
use Rattle.basis.proofs.Bounds.{split}
use Rattle.basis.proofs.Stores.{part_sets, sets_front, stored_whole, after_whole, stored_none, after_none, length_stored}
use Rattle.lent.specs.Written.{written_of, left_of}
use Rattle.lent.specs.Answer.{Written}
use Rattle.lent.proofs.Writes.{refused, untouched, done, written}
use Rattle.listed.specs.Texts.{Writing, writing, put, puts}

-- what a copy tells
module _ (l : List ℕ) (i : ℕ) (xs : List ℕ) {r : ℕ} {l' : List ℕ} where
  pub put_told : r ≡ after l i xs → l' ≡ stored l i xs → writing l' r ≡ put (writing l i) xs
  unfolding put
  put_told e f = rw (e, f)

-- pieces in two parts
pub puts_append : (t : Writing) (a b : List (List ℕ)) → puts t (a ++ b) ≡ puts (puts t a) b
unfolding puts
puts_append t [] b = refl
puts_append t (xs ∷ a) b = puts_append (put t xs) a b

-- what is put in ends within the memory
after_within : (l : List ℕ) (i : ℕ) (xs : List ℕ) → i ≤ length l → after l i xs ≤ length (stored l i xs)
after_within l i xs h =
    rw (length_stored l i xs)
    (⊎_elim
    (λ (g : length l < i + length xs). rw (after_none l i xs g) h)
    (λ (g : i + length xs ≤ length l). rw (after_whole l i xs g) g)
    (split (length l) (i + length xs)))

pub puts_within : (t : Writing) (xss : List (List ℕ)) → t.next ≤ length t.memory → (puts t xss).next ≤ length (puts t xss).memory
unfolding put puts
puts_within t [] h = h
puts_within t (xs ∷ xss) h = puts_within (put t xs) xss (after_within t.memory t.next xs h)

pub ended_within : (l : List ℕ) (xss : List (List ℕ)) {l' : List ℕ} {r : ℕ} → writing l' r ≡ puts (writing l 0) xss → r ≤ length l'
ended_within l xss e = subst (λ (w : Writing). w.next ≤ length w.memory) (sym e) (puts_within (writing l 0) xss (omega arith))

-- no more pieces; and some, by the first
pub puts_none : (t : Writing) → puts t [] ≡ t
unfolding puts
puts_none t = refl

pub puts_first : (t : Writing) (xs : List ℕ) (xss : List (List ℕ)) {u : Writing} → u ≡ put t xs → puts t (xs ∷ xss) ≡ puts u xss
unfolding puts
puts_first t xs xss e = rw e

-- one piece more, or some more, behind a text that is known
module _ {t u v : Writing} (e : u ≡ t) where
  pub and_put : (xs : List ℕ) → v ≡ put u xs → v ≡ put t xs
  and_put xs f = f ∙ ap (λ (w : Writing). put w xs) e

  pub and_puts : (xss : List (List ℕ)) → v ≡ puts u xss → v ≡ puts t xss
  and_puts xss f = f ∙ ap (λ (w : Writing). puts w xss) e

-- a piece written into the memory behind an index
abbrev pub next_of : ℕ → Written → ℕ
next_of i (Ok n) = i + n
next_of i (Err n) = i

module _ (l : List ℕ) (i : ℕ) (xs : List ℕ) (h : i ≤ length l) where
  abbrev k : ℕ
  k = length l - i

  abbrev part : List ℕ
  part = take k (drop i l)

  long : length part ≡ length l - i
  long = rw (length-take k (drop i l), length-drop i l) (omega arith)

  module _ (g : length part < length xs) where
    none_next : next_of i (written_of xs part) ≡ after l i xs
    none_next = rw (refused xs part g) (sym (after_none l i xs (omega (arith, long))))

    none_memory : put_mid i k l (left_of xs part) ≡ stored l i xs
    none_memory = rw (untouched xs part g, take-append-drop k (drop i l), take-append-drop i l) (sym (stored_none l i xs (omega (arith, long))))

  module _ (g : length xs ≤ length part) where
    some_next : next_of i (written_of xs part) ≡ after l i xs
    some_next = rw (done xs part g) (sym (after_whole l i xs (omega (arith, long))))

    some_memory : put_mid i k l (left_of xs part) ≡ stored l i xs
    some_memory = rw (written xs part g, ← sets_front part xs g, part_sets i k l xs (omega (arith, long)) g) (sym (stored_whole l i xs (omega (arith, long))))

  pub part_next : next_of i (written_of xs part) ≡ after l i xs
  part_next = ⊎_elim none_next some_next (split (length part) (length xs))

  pub part_memory : put_mid i k l (left_of xs part) ≡ stored l i xs
  part_memory = ⊎_elim none_memory some_memory (split (length part) (length xs))

  -- what comes behind it is within the memory
  pub part_within : next_of i (written_of xs part) ≤ length l
  part_within =
      ⊎_elim
      (λ (g : length part < length xs). rw (refused xs part g) h)
      (λ (g : length xs ≤ length part). rw (done xs part g) (omega (arith, long)))
      (split (length part) (length xs))
