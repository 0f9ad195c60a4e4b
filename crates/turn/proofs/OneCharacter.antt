-- Whether a well-formed text is one character: it is as long as the first character in it. Assumes nothing.
use Rattle.std.specs.Prelude.{None, Some, MatchOption}
use Prim.Native.Nat.{ℕ, ◌+◌, ◌≤◌, ◌<◌}
use native.Mathlib.Omega.{arith}
use mathlib.Core.Bool.{Bool, true, false}
use mathlib.Core.List.{List, [], ◌∷◌, ◌++◌, append_assoc}
use mathlib.Core.Path.{◌≡◌, refl, sym, ap, ◌∙◌}
use lib.Dec.{eqb}
use lib.ListN.{length, length-append}
use borrow.Author.Tests.{eq-eqb, ne_eqb}
use Rattle.basis.proofs.Cases.{both_left}
use Rattle.utf8.specs.Table.{Ch, codes, chars, well, look}
use Rattle.utf8.specs.Encode.{is_scalar, encode, encode_all, all_scalar}
use Rattle.utf8.specs.Looks.{Look}
use Rattle.utf8.proofs.Encodes.{size_bounds}
use Rattle.utf8.proofs.Finds.{look_encode}
use Rattle.utf8.proofs.Laws.{look_width}
use Rattle.utf8.proofs.Unicode.{well_encoded}

-- a look at a text of n bytes finds them all in one character
abbrev pub alone : Look → ℕ → Bool
alone (Some (c, w)) n = eqb w n
alone None n = false

-- a test of what was looked at
pub is_alone : (o : Look) (r : Bool) (n : ℕ) {X : ℕ × ℕ → Type 0} → MatchOption o (r ≡ false) X → ((x : ℕ × ℕ) → X x → r ≡ eqb x.1 n) → r ≡ alone o n
is_alone (Some (c, w)) r n h by = by (c, w) h
is_alone None r n h by = h

many : (c : ℕ) (cs : List ℕ) → 0 < length (encode_all (c ∷ cs))
unfolding encode_all
many c cs = rw (length-append (encode c) (encode_all cs)) (omega (arith, (size_bounds c).0))

first_scalar : (c : ℕ) (cs : List ℕ) → all_scalar (c ∷ cs) ≡ true → is_scalar c ≡ true
unfolding all_scalar
first_scalar c cs z = both_left (is_scalar c) (all_scalar cs) z

-- a first character is all there is if no other follows
only : (c : ℕ) (cs : List ℕ) → eqb (length (encode c)) (length (encode c) + length (encode_all cs)) ≡ eqb (length (c ∷ cs)) 1
unfolding encode_all
only c [] = eq-eqb (length (encode c)) (length (encode c) + 0) (omega arith)
only c (d ∷ cs) = ne_eqb (length (encode c)) (length (encode c) + length (encode_all (d ∷ cs))) (λ q. omega (arith, q, many d cs)) ∙ sym (ne_eqb (length (c ∷ d ∷ cs)) 1 (λ q. omega arith))

alone_by : (cs zs : List ℕ) → all_scalar cs ≡ true → alone (look (encode_all cs ++ zs)) (length (encode_all cs)) ≡ eqb (length cs) 1
unfolding encode_all
alone_by [] zs y = by (look zs) refl
  where
    by : (x : Look) → look zs ≡ x → alone x 0 ≡ false
    by (Some (c, w)) e = ne_eqb w 0 (λ q. omega (arith, (look_width zs e).0))
    by None e = refl
alone_by (c ∷ cs) zs y = rw (append_assoc (encode c) (encode_all cs) zs, look_encode c (encode_all cs ++ zs) (first_scalar c cs y), length-append (encode c) (encode_all cs)) (only c cs)

one_small : (c : ℕ) → length (encode_all (c ∷ [])) ≤ 4
unfolding encode_all
one_small c = rw (length-append (encode c) []) (omega (arith, size_bounds c))

codes_length : (cs : List Ch) → length (codes cs) ≡ length cs
unfolding codes
codes_length [] = refl
codes_length (c ∷ cs) = rw (codes_length cs)

module _ (bs : List ℕ) (w : well bs ≡ true) where
  pub alone_is : (zs : List ℕ) → alone (look (bs ++ zs)) (length bs) ≡ eqb (length (chars bs)) 1
  alone_is zs =
      let k = well_encoded bs w in
      ap (λ (x : List ℕ). alone (look (x ++ zs)) (length x)) (sym k.1) ∙ alone_by (codes (chars bs)) zs k.0 ∙ ap (λ (n : ℕ). eqb n 1) (codes_length (chars bs))

  pub too_many : 4 < length bs → false ≡ eqb (length (chars bs)) 1
  too_many h = by (codes (chars bs)) (well_encoded bs w).1 (codes_length (chars bs))
    where
      by : (cs : List ℕ) → encode_all cs ≡ bs → length cs ≡ length (chars bs) → false ≡ eqb (length (chars bs)) 1
      by [] e q = rw (← q)
      by (c ∷ d ∷ cs) e q = rw (← q) (sym (ne_eqb (length (c ∷ d ∷ cs)) 1 (λ z. omega arith)))
      by (c ∷ []) e q = absurd (omega (arith, h, rw e at (one_small c)))
