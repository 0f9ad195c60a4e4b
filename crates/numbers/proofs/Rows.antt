-- Laws of numbers spelt in bytes, for code that writes them one behind the other. Assumes nothing.
use Rattle.std.specs.Prelude.{Ok}
use Prim.Native.Nat.{ℕ, zero, suc, ◌+◌, ◌-◌, ◌*◌, ◌/◌, ◌%◌, ◌≤◌, ◌<◌}
use native.Mathlib.Omega.{arith}
use native.Mathlib.Nat.{add-zero, zero-mul, suc-mul, le_trans, mul-le-mul_right, div-mul-le_self, div-lt_iff_lt-mul}
use native.Mathlib.Numerals.{add-one}
use mathlib.Core.List.{List, [], ◌∷◌, ◌++◌, append_assoc, append-nil}
use mathlib.Core.Path.{◌≡◌, refl, sym, ap, ◌∙◌}
use lib.ListN.{length, set, take, drop, get_or, length-append}
use lib.Seq.{sets, length-sets, take-suc-set, take_all}
use Rattle.basis.specs.Store.{stored, after, Stored}
use Rattle.basis.proofs.Bytes.{here, past}
use Rattle.basis.proofs.Stores.{sets_append, sets_front, whole}
use Rattle.lent.specs.Written.{written_of, left_of}
use Rattle.lent.proofs.Writes.{done, written}
use Rattle.numbers.specs.Spell.{spell, spelled}

-- a number has as many bytes as it is given
pub length_spell : (w n : ℕ) → length (spell w n) ≡ w
unfolding spell
length_spell zero n = refl
length_spell (suc w) n = ap suc (length_spell w (n / 256))

-- a row has so many bytes for each number
pub length_spelled : (w : ℕ) (row : List ℕ) → length (spelled w row) ≡ length row * w
unfolding spelled
length_spelled w [] = sym (zero-mul w)
length_spelled w (n ∷ ns) = length-append (spell w n) (spelled w ns) ∙ omega (arith, length_spell w n, length_spelled w ns, suc-mul (length ns) w)

-- the bytes of a place that holds a number's lowest i bytes and then awaits the rest: one byte more, and all
module _ (items : List ℕ) (i w rest : ℕ) (e : length items ≡ w) where
  pub spell_on : i < w → take (i + 1) (set items i (rest % 256)) ++ spell (w - (i + 1)) (rest / 256) ≡ take i items ++ spell (w - i) rest
  unfolding spell
  spell_on h =
      let k : w - i ≡ suc (w - (i + 1)) = omega arith in
      rw (add-one, take-suc-set items i (rest % 256) (omega arith), append_assoc, k, add-one)

  pub spell_end : w ≤ i → take i items ++ spell (w - i) rest ≡ items
  unfolding spell
  spell_end h =
      let k : w - i ≡ 0 = omega arith in
      rw (k, append-nil, take_all i items (omega arith))

-- a row from an index on: its first number, and what is after it
pub spelled_here : (w : ℕ) (row : List ℕ) (i : ℕ) → i < length row → spelled w (drop i row) ≡ spell w (get_or row i 0) ++ spelled w (drop (i + 1) row)
unfolding spelled
spelled_here w row i h = rw (here row i h)

-- the room that a row asks, as the code tests it: there is none, or there is
module _ (w : ℕ) (row l : List ℕ) (h : w ≡ 0 → ⊥) where
  pub row_short : length l / w < length row → length l < length (spelled w row)
  row_short g = rw (length_spelled w row) ((div-lt_iff_lt-mul {k = w} (omega arith)).0 g)

  pub row_fits : length row ≤ length l / w → length (spelled w row) ≤ length l
  row_fits g = rw (length_spelled w row) (le_trans (mul-le-mul_right w g) (div-mul-le_self (length l) w))

-- numbers of no bytes are no bytes
pub spelled_none : (row : List ℕ) → spelled 0 row ≡ []
unfolding spelled spell
spelled_none [] = refl
spelled_none (n ∷ ns) = spelled_none ns

module _ (row l : List ℕ) where
  pub none_done : (w : ℕ) → w ≡ 0 → Ok 0 ≡ written_of (spelled w row) l
  none_done w e = rw (e, spelled_none row) (sym (done [] l (omega arith)))

  pub none_left : (w : ℕ) → w ≡ 0 → l ≡ left_of (spelled w row) l
  none_left w e = rw (e, spelled_none row) (sym (written [] l (omega arith)))

-- between two numbers of a row: what is still to be spelt goes where the whole was to go
pub record Rowed (row : List ℕ) (w : ℕ) (l₀ l : List ℕ) (at i : ℕ) : Type 0 where
  pub within : i ≤ length row
  pub room : length (spelled w row) ≤ length l₀
  pub same : length l ≡ length l₀
  pub left : at + length (spelled w (drop i row)) ≡ length (spelled w row)
  pub memory : sets l₀ 0 (spelled w row) ≡ sets l at (spelled w (drop i row))

pub begun : (row : List ℕ) (w : ℕ) (l : List ℕ) → length (spelled w row) ≤ length l → Rowed row w l l 0 0
begun row w l h = record { within = omega arith; room = h; same = refl; left = omega arith; memory = refl }

module _ {row : List ℕ} {w : ℕ} {l₀ l : List ℕ} {at i : ℕ} (inv : Rowed row w l₀ l at i) where
  module _ (h : i < length row) {r : ℕ} {l' : List ℕ} (e : r ≡ after l at (spell w (get_or row i 0))) (f : l' ≡ stored l at (spell w (get_or row i 0))) where
    -- the number had room
    stands : Stored l at (length (spell w (get_or row i 0))) (spell w (get_or row i 0)) r l'
    stands = whole l at (spell w (get_or row i 0)) e f (omega (arith, inv.left, inv.same, inv.room, ap length (spelled_here w row i h), length-append (spell w (get_or row i 0)) (spelled w (drop (i + 1) row))))

    pub goes_on : Rowed row w l₀ l' r (i + 1)
    goes_on =
        record {
          within = omega arith;
          room = inv.room;
          same = rw stands.memory (length-sets l at (spell w (get_or row i 0)) ∙ inv.same);
          left = omega (arith, inv.left, stands.next, ap length (spelled_here w row i h), length-append (spell w (get_or row i 0)) (spelled w (drop (i + 1) row)));
          memory = inv.memory ∙ rw (spelled_here w row i h, sets_append l at (spell w (get_or row i 0)) (spelled w (drop (i + 1) row)), ← stands.next, ← stands.memory);
        }

  module _ (h : length row ≤ i) where
    pub over_at : at ≡ length (spelled w row)
    unfolding spelled
    over_at = sym (add-zero at) ∙ rw (past row i h) at inv.left

    pub over_memory : sets l₀ 0 (spelled w row) ≡ l
    unfolding spelled
    over_memory = inv.memory ∙ rw (past row i h)

    pub row_done : Ok at ≡ written_of (spelled w row) l₀
    row_done = ap Ok over_at ∙ sym (done (spelled w row) l₀ inv.room)

    pub row_left : l ≡ left_of (spelled w row) l₀
    row_left = sym over_memory ∙ sets_front l₀ (spelled w row) inv.room ∙ sym (written (spelled w row) l₀ inv.room)
