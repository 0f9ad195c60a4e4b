-- A text that begins with a word, or is it. Assumes nothing.
use Prim.Native.Nat.{ℕ, ◌≤◌}
use native.Mathlib.Omega.{arith}
use mathlib.Core.Bool.{true, false}
use mathlib.Core.Path.{◌≡◌, refl}
use mathlib.Core.List.{List, [], ◌∷◌}
use lib.Dec.{eqb}
use lib.ListN.{length}
use borrow.Author.Tests.{eq-eqb, ne_eqb, eqb-true}
use Rattle.basis.proofs.Cases.{both_left, both_right, not_both}
use Rattle.keywords.specs.Lookup.{same_text}
use Rattle.basis.specs.Words.{begins}

-- a word that a text begins with is no longer than it
pub begins_within : (w s : List ℕ) → begins w s ≡ true → length w ≤ length s
unfolding begins
begins_within [] s e = omega arith
begins_within (a ∷ w) [] e = not_both e refl
begins_within (a ∷ w) (b ∷ s) e = omega (arith, begins_within w s (both_right (eqb a b) (begins w s) e))

begins_self : (w : List ℕ) → begins w w ≡ true
unfolding begins
begins_self [] = refl
begins_self (a ∷ w) = rw (eq-eqb a a refl) (begins_self w)

begins_whole : (w s : List ℕ) → length w ≡ length s → begins w s ≡ true → w ≡ s
unfolding begins
begins_whole [] [] l e = refl
begins_whole [] (b ∷ s) l e = absurd (omega arith)
begins_whole (a ∷ w) [] l e = not_both e refl
begins_whole (a ∷ w) (b ∷ s) l e =
    rw (eqb-true a b (both_left (eqb a b) (begins w s) e), begins_whole w s (omega arith) (both_right (eqb a b) (begins w s) e))

module _ (w s : List ℕ) where
  pub same_text_lem : same_text w s ≡ true → w ≡ s
  unfolding same_text
  same_text_lem e = begins_whole w s (eqb-true (length w) (length s) (both_left (eqb (length w) (length s)) (begins w s) e)) (both_right (eqb (length w) (length s)) (begins w s) e)

  pub other_length : (length w ≡ length s → ⊥) → false ≡ same_text w s
  unfolding same_text
  other_length n = rw (ne_eqb (length w) (length s) n)

pub same_self : (w : List ℕ) → same_text w w ≡ true
unfolding same_text
same_self w = rw (eq-eqb (length w) (length w) refl) (begins_self w)
