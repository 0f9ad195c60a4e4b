-- Laws of the places of specs/LiteralPlaces.antt, and of a first place once it is set. Assumes nothing.
use Prim.Native.Nat.{ℕ, zero, suc}
use mathlib.Core.Bool.{Bool, true, false}
use mathlib.Core.Path.{◌≡◌, refl, ap, ◌∙◌}
use lib.Dec.{eqb}
use borrow.Author.Tests.{eq-eqb, ne_eqb}
use Rattle.basis.specs.Pick.{pick, both, isnt}
use Rattle.basis.proofs.Cases.{pick_cases, both_no}
use Rattle.position.specs.declared.Position.{Position}
use Rattle.position.specs.Place.{none, is_none, on_line, or_else, advanced, lined}
use Rattle.position.proofs.Moves.{advanced_on, lined_on, none_none}
use Rattle.promises.specs.LiteralPlaces.{columns, behind_char}
use Rattle.classes.specs.Marks.{lf}

-- ---- the first place
pub unset : (p : Position) → or_else none p ≡ p
unfolding or_else
unset p = rw none_none

pub stays : (f p : Position) → is_none f ≡ false → or_else f p ≡ f
unfolding or_else
stays f p h = rw h

pub set_once : (f q p : Position) → is_none q ≡ false → or_else (or_else f q) p ≡ or_else f q
unfolding or_else
set_once f q p h = go (is_none f) refl
  where
    go : (b : Bool) → is_none f ≡ b → pick (is_none (pick (is_none f) q f)) p (pick (is_none f) q f) ≡ pick (is_none f) q f
    go true e = rw (e, h)
    go false e = rw (e, e)

pub is_set : (f q : Position) → is_none q ≡ false → is_none (or_else f q) ≡ false
unfolding or_else
is_set f q h = pick_cases (λ (x : Position). is_none x ≡ false) (is_none f) q f (λ e. h) (λ e. e)

-- ---- behind a character
module _ (c : ℕ) (p : Position) where
  pub behind_line : c ≡ lf → behind_char false c p ≡ lined (advanced p)
  unfolding behind_char
  behind_line e = rw (eq-eqb c lf e)

  pub behind_other : (attempt : Bool) → (c ≡ lf → ⊥) → behind_char attempt c p ≡ advanced p
  unfolding behind_char
  behind_other attempt n = rw (ne_eqb c lf n)

  pub behind_attempt : behind_char true c p ≡ advanced p
  unfolding behind_char
  behind_attempt = ap (λ (b : Bool). pick b (lined (advanced p)) (advanced p)) (both_no (eqb c lf))

  pub behind_on : (attempt : Bool) → on_line p ≡ true → on_line (behind_char attempt c p) ≡ true
  unfolding behind_char
  behind_on attempt h =
      pick_cases (λ (x : Position). on_line x ≡ true) (both (eqb c lf) (isnt attempt)) (lined (advanced p)) (advanced p) (λ e. lined_on (advanced p)) (λ e. advanced_on p ∙ h)

pub columns_on : (n : ℕ) (p : Position) → on_line (columns n p) ≡ on_line p
unfolding columns
columns_on zero p = refl
columns_on (suc n) p = columns_on n (advanced p) ∙ advanced_on p
