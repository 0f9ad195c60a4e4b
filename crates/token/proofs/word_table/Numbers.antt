-- A text as one number: no two texts of bytes that begin with another byte than 0 have the same, and one of eight bytes fits a word of the machine. Assumes nothing.
use Prim.Native.Nat.{ℕ, zero, suc, ◌+◌, ◌-◌, ◌*◌, ◌≤◌, ◌<◌}
use native.Mathlib.Omega.{arith}
use native.Mathlib.Numerals.{add-one}
use native.Mathlib.Nat.{le_refl, zero-add, suc-add}
use mathlib.Core.Bool.{Bool, true}
use mathlib.Core.Path.{◌≡◌, refl, sym}
use mathlib.Core.Logic.{⊎_elim}
use mathlib.Core.List.{List, [], ◌∷◌}
use lib.Dec.{T, ltb, ltb→lt}
use lib.ListN.{length, get_or, drop}
use Rattle.basis.specs.Pick.{both}
use Rattle.basis.proofs.Bounds.{split}
use Rattle.basis.proofs.Bytes.{here, past}
use Rattle.basis.proofs.Cases.{true_left, true_right}
use Rattle.token.specs.Spelt.{number_from, word_number}

-- each byte is one
abbrev pub Bytes : List ℕ → Type 0
Bytes s = (i : ℕ) → get_or s i 0 < 256

-- and so a computed test
abbrev pub bytes : List ℕ → Bool
bytes [] = true
bytes (b ∷ s) = both (ltb b 256) (bytes s)

pub bytes_are : (s : List ℕ) → T (bytes s) → Bytes s
bytes_are [] h i = omega arith
bytes_are (b ∷ s) h zero = ltb→lt b 256 (true_left (ltb b 256) (bytes s) h)
bytes_are (b ∷ s) h (suc i) = bytes_are s (true_right (ltb b 256) (bytes s) h) i

-- ---- two texts of one number
-- equally long ones behind numbers are the same, and so are the numbers
same_digits : (w s : List ℕ) → length w ≡ length s → Bytes w → Bytes s → (u v : ℕ) → number_from u w ≡ number_from v s → (u ≡ v) × (w ≡ s)
unfolding number_from
same_digits [] [] l p q u v e = (e, refl)
same_digits [] (b ∷ s) l p q u v e = absurd (omega arith)
same_digits (a ∷ w) [] l p q u v e = absurd (omega arith)
same_digits (a ∷ w) (b ∷ s) l p q u v e =
    let r = same_digits w s (omega arith) (λ i. p (suc i)) (λ i. q (suc i)) (u * 256 + a) (v * 256 + b) e in
    let f : u ≡ v = omega (arith, r.0, p 0, q 0) in
    let g : a ≡ b = omega (arith, r.0, p 0, q 0) in
    (f, rw (g, r.1))

-- a longer one behind a number has a greater
no_longer : (s w : List ℕ) → length w < length s → Bytes w → Bytes s → (u v : ℕ) → u < 256 → 1 ≤ v → number_from u w ≡ number_from v s → ⊥
unfolding number_from
no_longer [] w l p q u v h k e = omega arith
no_longer (b ∷ s) w l p q u v h k e =
    ⊎_elim
    (λ g. no_longer s w g p (λ i. q (suc i)) u (v * 256 + b) h (omega arith) e)
    (λ g. omega (arith, (same_digits w s (omega arith) p (λ i. q (suc i)) u (v * 256 + b) e).0))
    (split (length w) (length s))

-- texts of one number that begin with another byte than 0
pub number_same : (w s : List ℕ) → Bytes w → Bytes s → 1 ≤ get_or w 0 0 → 1 ≤ get_or s 0 0 → word_number w ≡ word_number s → w ≡ s
unfolding word_number number_from
number_same [] s p q h k e = absurd (omega arith)
number_same (a ∷ w) [] p q h k e = absurd (omega arith)
number_same (a ∷ w) (b ∷ s) p q h k e =
    let p' : Bytes w = λ i. p (suc i) in
    let q' : Bytes s = λ i. q (suc i) in
    ⊎_elim
    (λ g. absurd (no_longer s w g p' q' (0 * 256 + a) (0 * 256 + b) (omega (arith, p 0)) (omega (arith, k)) e))
    (λ g. ⊎_elim
    (λ z. absurd (no_longer w s z q' p' (0 * 256 + b) (0 * 256 + a) (omega (arith, q 0)) (omega (arith, h)) (sym e)))
    (λ z.
    let r = same_digits w s (omega arith) p' q' (0 * 256 + a) (0 * 256 + b) e in
    let f : a ≡ b = omega (arith, r.0) in
    rw (f, r.1)
    )
    (split (length s) (length w)))
    (split (length w) (length s))

-- ---- how great a number is
-- what a number of i bytes is below
unfoldable pub bound : ℕ → ℕ
bound zero = 1
bound (suc i) = bound i * 256

pub bound_on : (i v b : ℕ) → v < bound i → b < 256 → v * 256 + b < bound (suc i)
unfolding bound
bound_on i v b h k = omega arith

bound_grows : (k i : ℕ) → bound i ≤ bound (k + i)
unfolding bound
bound_grows zero i = rw zero-add (le_refl (bound i))
bound_grows (suc k) i = rw suc-add (omega (arith, bound_grows k i))

-- eight bytes fit
pub bound_fits : (i v : ℕ) → i ≤ 8 → v < bound i → v < 18446744073709551616
unfolding bound
bound_fits i v h k =
    let e : (8 - i) + i ≡ 8 = omega arith in
    omega (arith, rw e at (bound_grows (8 - i) i))

-- ---- a text of eight bytes at most is read byte by byte
module _ (s : List ℕ) where
  -- i bytes are read, and their number is v
  pub record Read (v i : ℕ) : Type 0 where
    pub within : i ≤ length s
    pub few : length s ≤ 8
    pub small : v < bound i
    pub is : number_from v (drop i s) ≡ word_number s

  pub read_none : length s ≤ 8 → Read 0 0
  unfolding bound word_number
  read_none h = record { within = omega arith; few = h; small = omega arith; is = refl }

  module _ (v i : ℕ) (r : Read v i) where
    pub read_all : length s ≤ i → v ≡ word_number s
    unfolding number_from
    read_all h = rw (past s i h) at r.is

    module _ (h : i < length s) where
      pub read_fits : (b : ℕ) → b < 256 → v * 256 + b < 18446744073709551616
      read_fits b k = bound_fits (suc i) _ (omega (arith, r.few)) (bound_on i v b r.small k)

      pub read_more : get_or s i 0 < 256 → Read (v * 256 + get_or s i 0) (i + 1)
      unfolding number_from
      read_more k =
          record {
            within = omega arith;
            few = r.few;
            small = rw add-one (bound_on i v (get_or s i 0) r.small k);
            is = rw (here s i h) at r.is;
          }
