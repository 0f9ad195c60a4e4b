-- The words of a span, as the tests of its places tell them. Assumes nothing.
use Prim.Native.Nat.{ℕ}
use mathlib.Core.Bool.{Bool, true, false}
use mathlib.Core.List.{List, ◌++◌}
use mathlib.Core.Path.{◌≡◌, refl, sym, ap, ◌∙◌}
use lib.Dec.{eqb}
use borrow.Author.Tests.{eq-eqb, ne_eqb}
use Rattle.basis.specs.Pick.{pick, both}
use Rattle.basis.specs.Words.{word}
use Rattle.position.specs.declared.Position.{Position}
use Rattle.position.specs.Place.{none, is_none, line_number}
use Rattle.position.proofs.Moves.{only_none}
use Rattle.places.specs.Coordinates.{line_option}
use Rattle.places.proofs.coordinates.Numbers.{line_some}
use Rattle.span.specs.declared.Span.{Span}
use Rattle.span.specs.Spans.{span_start, span_end}
use Rattle.display.specs.Forms.{debug_of, same_option, same_line, apart, dashed, between, span_of}

-- of places that are not NONE the numbers tell what the Rust's Options tell
lines_compared : (a b : Position) {n m : ℕ} → is_none a ≡ false → is_none b ≡ false → n ≡ line_number a → m ≡ line_number b → same_option (line_option a) (line_option b) ≡ eqb n m
unfolding same_option
lines_compared a b h g e f = rw (e, f, line_some a h, line_some b g)

-- the first and the third case of the match are one
alone : (a : Bool) (x y z : List ℕ) → (a ≡ true → x ≡ z) → pick (both a true) x (pick a y z) ≡ z
alone true x y z h = h refl
alone false x y z h = refl

-- up to NONE a span reads as its start, NONE too
module _ (s : Span) {a b : Position} (f : a ≡ span_start s) (g : b ≡ span_end s) {y : Bool} (e : y ≡ is_none b) where
  pub up_to_none : y ≡ true → span_of s ≡ debug_of a
  unfolding span_of between
  up_to_none h = rw (← f, ← g, ← e, h) (alone (is_none a) (debug_of none) _ (debug_of a) (λ z. ap debug_of (sym (only_none a z))))

  -- from NONE, as its end behind two dots
  module _ (h : y ≡ false) {x : Bool} (d : x ≡ is_none a) where
    pub from_none : x ≡ true → span_of s ≡ word ".." ++ debug_of b
    unfolding span_of between
    from_none z = rw (← f, ← g, ← e, h, ← d, z)

    -- and between two places by whether their lines differ
    module _ (z : x ≡ false) {n m : ℕ} (l : n ≡ line_number a) (k : m ≡ line_number b) where
      on_lines : span_of s ≡ dashed a b
      unfolding span_of between
      on_lines = rw (← f, ← g, ← e, h, ← d, z)

      alike : same_option (line_option a) (line_option b) ≡ eqb n m
      alike = lines_compared a b (sym d ∙ z) (sym e ∙ h) l k

      pub on_two_lines : (n ≡ m → ⊥) → span_of s ≡ apart a b
      unfolding dashed
      on_two_lines w = rw (on_lines, alike, ne_eqb n m w)

      pub on_one_line : n ≡ m → span_of s ≡ same_line a b
      unfolding dashed
      on_one_line w = rw (on_lines, alike, eq-eqb n m w)
