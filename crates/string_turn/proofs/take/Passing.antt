-- What is passed at once, for each way through the code. Assumes nothing.
use Prim.Native.Nat.{ℕ, ◌+◌, ◌≤◌, ◌<◌}
use native.Mathlib.Omega.{arith}
use mathlib.Core.Bool.{Bool, true, false}
use mathlib.Core.List.{List}
use mathlib.Core.Logic.{◌⊎◌, inl, inr, ⊎_elim}
use mathlib.Core.Path.{◌≡◌, refl, sym, ◌∙◌}
use lib.ListN.{length, get_or}
use borrow.Author.Tests.{eqb-true, ne_eqb}
use Rattle.basis.specs.Pick.{isnt}
use Rattle.basis.proofs.Bounds.{split}
use Rattle.basis.proofs.Cases.{not_both}
use Rattle.position.specs.declared.Position.{Position}
use Rattle.position.specs.Place.{or_else, advanced, advanced_by}
use Rattle.utf8.proofs.Bits.{look_ascii}
use Rattle.utf8.proofs.Laws.{at_width}
use Rattle.chars.specs.Stretch as stretch
use Rattle.chars.specs.Stretch.{StretchOf}
use Rattle.chars.proofs.Stretches.{stretch_low, stretch_within, one_more}
use Rattle.classes.specs.Marks.{lf, cr, dollar, backslash, backtick, left_brace}
use Rattle.string_turn.specs.Kinds.{is_verbatim}
use Rattle.string_turn.specs.Take.{next_is}
use Rattle.string_turn.specs.Passing.{Plain, Added, feed, lone, sign, slash, place_behind, stood, StringPasses, none, some, one, then}
use Rattle.string_turn.specs.declared.take.Stood.{Stood}

-- ---- what was passed goes on, within the text
module _ {t : List ℕ} {q : ℕ} where
  pub passes_low : {u r : Stood} → StringPasses t q u r → u.at ≤ r.at
  passes_low none = omega arith
  passes_low (some x y) = omega (arith, stretch_low x)
  passes_low (one y e a) = omega arith
  passes_low (then x y) = omega (arith, passes_low x, passes_low y)

  pub passes_within : {u r : Stood} → StringPasses t q u r → u.at < r.at → r.at ≤ length t
  passes_within none h = absurd (omega arith)
  passes_within (some x y) h = stretch_within x h
  passes_within (one {u} y e a) h = (at_width t u.at e).1
  passes_within (then {u} {v} {r} x y) h =
      ⊎_elim (λ l. passes_within y l) (λ l. let g = passes_within x (omega (arith, l, h)) in omega (arith, g, l)) (split v.at r.at)

-- ---- a stretch
pub passed : (t : List ℕ) (q : ℕ) (from : Stood) {k b : ℕ} → StretchOf t (Plain q) from.at k b → (k ≡ 0 → ⊥)
    → {p u f : Position} → p ≡ advanced_by k from.place → u ≡ advanced from.place → f ≡ or_else from.first u → StringPasses t q from (stood b p f)
passed t q from x n g m h = rw (g, h, m) (some x n)

-- ---- one byte
pub is_plain : (q c : ℕ) → (c ≡ q → ⊥) → ((c ≡ backslash) ⊎ (c ≡ dollar) ⊎ (c ≡ lf) ⊎ (c ≡ cr) → ⊥) → Plain q c
unfolding stretch.among
is_plain q c a n =
    rw (ne_eqb c q a, ne_eqb c backslash (λ e. n (inl e)), ne_eqb c dollar (λ e. n (inr (inl e))), ne_eqb c lf (λ e. n (inr (inr (inl e)))), ne_eqb c cr (λ e. n (inr (inr (inr e)))))

module _ (t : List ℕ) (q : ℕ) (from : Stood) (h : from.at < length t) where
  pub byte_passed : {v : Bool} → (v ≡ true → (get_or t from.at 0 < 0x80) × Plain q (get_or t from.at 0)) → v ≡ true
      → {p u f : Position} → p ≡ advanced_by 1 from.place → u ≡ advanced from.place → f ≡ or_else from.first u → StringPasses t q from (stood (from.at + 1) p f)
  byte_passed y w g m n =
      let a = y w in
      passed t q from (one_more {k = 0} stretch.none (sym (look_ascii t from.at h 1 a.0 refl)) a.1 refl) (λ e. omega (arith, e)) g m n

-- ---- a character that is added
-- each of the four, by what follows it
not_so : (v : Bool) → isnt v ≡ true → v ≡ false
not_so true h = not_both h refl
not_so false h = refl

not_next : {v u : Bool} → v ≡ u → isnt v ≡ true → u ≡ false
not_next {v} e h = sym e ∙ not_so v h

module _ {t : List ℕ} {at c : ℕ} {v : Bool} where
  pub is_lone : c ≡ cr → v ≡ next_is t at lf → isnt v ≡ true → Added t at c
  is_lone q e h = rw q (lone (not_next e h))

  pub is_sign : c ≡ dollar → v ≡ next_is t at left_brace → isnt v ≡ true → Added t at c
  is_sign q e h = rw q (sign (not_next e h))

  pub is_slash : c ≡ backslash → v ≡ next_is t at dollar → isnt v ≡ true → Added t at c
  is_slash q e h = rw q (slash (not_next e h))

added_low : {t : List ℕ} {at c : ℕ} → Added t at c → c < 0x80
added_low feed = omega arith
added_low (lone e) = omega arith
added_low (sign e) = omega arith
added_low (slash e) = omega arith

module _ (t : List ℕ) (from : Stood) (h : from.at < length t) where
  pub one_passed : {v : Bool} → (v ≡ true → Added t (from.at + 1) (get_or t from.at 0)) → v ≡ true
      → {p u f : Position} → p ≡ place_behind (get_or t from.at 0) from.place → u ≡ advanced from.place → f ≡ or_else from.first u → StringPasses t backtick from (stood (from.at + 1) p f)
  one_passed y w g m n =
      let a = y w in
      rw (g, n, m) (one refl (sym (look_ascii t from.at h 1 (added_low a) refl)) a)

-- ---- in text both, one behind the other
pub in_text : {t : List ℕ} {q : ℕ} {u v r : Stood} {b : Bool} → b ≡ is_verbatim q → b ≡ true → StringPasses t q u v → StringPasses t backtick v r → StringPasses t q u r
unfolding is_verbatim
in_text {q = q} {v = v} {r = r} e h x y =
    let k : q ≡ backtick = eqb-true q backtick (sym e ∙ h) in
    then {v = v} {r = r} x (rw k y)
