-- What is shown for each form, as the number's cases tell it. Assumes nothing.
use Prim.Native.Nat.{ℕ}
use mathlib.Core.Path.{◌≡◌}
use borrow.Author.Tests.{ne_eqb}
use Rattle.position.specs.declared.Position.{Position}
use Rattle.span.specs.Spans.{new_span}
use Rattle.display.specs.declared.Shown.TheVariants as Shown
use Rattle.c_places.specs.Forms.{form_of}

module _ (form : ℕ) (p q : Position) where
  pub is_display : form ≡ 0 → Shown.Display p ≡ form_of form p q
  unfolding form_of
  is_display e = rw e

  pub is_debug : form ≡ 1 → Shown.Debug p ≡ form_of form p q
  unfolding form_of
  is_debug e = rw e

  pub is_span : (form ≡ 0 → ⊥) → (form ≡ 1 → ⊥) → Shown.Span (new_span p q) ≡ form_of form p q
  unfolding form_of
  is_span n m = rw (ne_eqb form 0 n, ne_eqb form 1 m)
