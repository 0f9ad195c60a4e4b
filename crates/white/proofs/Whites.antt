-- White_Space by its ranges and by its single code points. Assumes nothing.
use Prim.Native.Nat.{ℕ, ◌≤◌, ◌<◌}
use native.Mathlib.Omega.{arith}
use mir.Val.{has_key}
use types.Run.{OneOf, hit}
use mathlib.Core.Bool.{Bool, true, false}
use mathlib.Core.List.{List, [], ◌∷◌}
use mathlib.Core.Logic.{⊎_elim}
use mathlib.Core.Path.{◌≡◌, refl, sym, ap, ◌∙◌}
use lib.Dec.{T}
use Rattle.basis.specs.Pick.{either}
use Rattle.basis.proofs.Bounds.{split}
use Rattle.utf8.specs.Table.{Range, within}
use Rattle.utf8.proofs.Ranges.{within_low, within_high}
use Rattle.white.specs.White.{among_ranges, whites, is_white, white_in}
use Rattle.white.specs.declared.Edition.{Edition}
use Rattle.white.specs.declared.Edition.TheVariants.{Later}
use Rattle.white.proofs.Steady.{steady, among_steady}

-- no entry begins or ends between l and u: what holds of l holds of c
steadily : (c l u : ℕ) → l ≤ c → c < u → T (steady whites l u) → among_ranges whites l ≡ among_ranges whites c
steadily c l u h g t = among_steady c l u h g whites t

-- the entries of more code points, and two that stand side by side
module _ {c : ℕ} where
  pub control : 0x0009 ≤ c → c ≤ 0x000D → true ≡ is_white c
  unfolding is_white
  control h g = steadily c 0x0009 0x000E h (omega arith) tt

  pub space : 0x2000 ≤ c → c ≤ 0x200A → true ≡ is_white c
  unfolding is_white
  space h g = steadily c 0x2000 0x200B h (omega arith) tt

  pub separator : 0x2028 ≤ c → c ≤ 0x2029 → true ≡ is_white c
  unfolding is_white
  separator h g = ⊎_elim (λ k. steadily c 0x2028 0x2029 h k tt) (λ k. steadily c 0x2029 0x202A k (omega arith) tt) (split c 0x2029)

  -- between the blank and U+0085 no entry stands
  pub plain : 0x0021 ≤ c → c < 0x0085 → is_white c ≡ false
  unfolding is_white
  plain h g = sym (steadily c 0x0021 0x0085 h g tt)

-- the entries of one code point that no other stands beside
abbrev pub singles : List ℕ
singles = 0x0020 ∷ 0x0085 ∷ 0x00A0 ∷ 0x1680 ∷ 0x202F ∷ 0x205F ∷ 0x3000 ∷ []

-- one of some numbers that are all white is white
abbrev All : List ℕ → Type 0
All [] = Unit {0}
All (k ∷ ks) = (true ≡ among_ranges whites k) × All ks

one_of : (c : ℕ) (ks : List ℕ) → All ks → OneOf ks c → true ≡ among_ranges whites c
one_of c [] a o = absurd o
one_of c (k ∷ []) a o = a.0 ∙ sym (ap (among_ranges whites) o)
one_of c (k ∷ j ∷ ks) a o = ⊎_elim (λ e. a.0 ∙ sym (ap (among_ranges whites) e)) (λ l. one_of c (j ∷ ks) a.1 l) o

pub single : (c : ℕ) → OneOf singles c → true ≡ is_white c
unfolding is_white
single c o = one_of c singles (refl, (refl, (refl, (refl, (refl, (refl, (refl, tt))))))) o

-- a number in none of the ranges
abbrev Outside : List Range → ℕ → Type 0
Outside [] c = Unit {0}
Outside (r ∷ rs) c = (r.low ≤ c → c ≤ r.high → ⊥) × Outside rs c

outside : (rs : List Range) (c : ℕ) → Outside rs c → false ≡ among_ranges rs c
outside [] c o = refl
outside (r ∷ rs) c o = go (within r c) refl (outside rs c o.1)
  where
    go : (t : Bool) → within r c ≡ t → false ≡ among_ranges rs c → false ≡ either t (among_ranges rs c)
    go true e q = absurd (o.0 (within_low r c e) (within_high r c e))
    go false e q = q

-- no single one, and in none of the ranges
module _ (c : ℕ) (n : OneOf singles c → ⊥) where
  other : (k : ℕ) → T (has_key singles k) → k ≤ c → c ≤ k → ⊥
  other k t h g = let e : c ≡ k = omega arith in n (rw e (hit singles k t))

  pub none : (0x0009 ≤ c → c ≤ 0x000D → ⊥) → (0x2000 ≤ c → c ≤ 0x200A → ⊥) → (0x2028 ≤ c → c ≤ 0x2029 → ⊥) → false ≡ is_white c
  unfolding is_white
  none x y z =
      outside whites c (
        x,
        (
          other 0x0020 tt,
          (
            other 0x0085 tt,
            (
              other 0x00A0 tt,
              (
                other 0x1680 tt,
                (
                  y,
                  (
                    (λ h g. z h (omega arith)),
                    (
                      (λ h g. z (omega arith) g),
                      (other 0x202F tt, (other 0x205F tt, (other 0x3000 tt, tt))),
                    ),
                  ),
                ),
              ),
            ),
          ),
        ),
      )

-- the later edition's entries are these
pub in_later : (e : Edition) (c : ℕ) → white_in e c ≡ is_white c
unfolding white_in
in_later Later c = refl

-- by every edition the blank is white, and no character between it and U+0085
pub blank_in : (e : Edition) → white_in e 0x0020 ≡ true
unfolding is_white
blank_in e = in_later e 0x0020

pub plain_in : (e : Edition) {c : ℕ} → 0x0021 ≤ c → c < 0x0085 → white_in e c ≡ false
plain_in e h g = in_later e _ ∙ plain h g
