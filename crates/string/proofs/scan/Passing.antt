-- Plain characters measured at once, where neither the limit nor the room is in the way. Assumes nothing.
use Rattle.utf8.specs.Looks.{char_found}
use Rattle.std.specs.Prelude.{None}
use Prim.Native.Nat.{ℕ, ◌+◌, ◌-◌, ◌≤◌, ◌<◌}
use native.Mathlib.Omega.{arith}
use mathlib.Core.Bool.{false}
use mathlib.Core.List.{List}
use mathlib.Core.Path.{◌≡◌, sym, ap, ◌∙◌}
use lib.ListN.{length}
use Rattle.position.specs.declared.Position.{Position}
use Rattle.position.specs.Place.{or_else, advanced}
use Rattle.utf8.specs.Table.{look_at}
use Rattle.utf8.specs.Encode.{encoded}
use Rattle.utf8.proofs.Encodes.{encoded_scalar}
use Rattle.utf8.proofs.Laws.{at_width}
use Rattle.utf8.proofs.Unicode.{size_width, code_scalar}
use Rattle.white.specs.White.{is_white}
use Rattle.chars.specs.Stretch.{StretchOf}
use Rattle.chars.specs.declared.cursor.Cursor.{Cursor}
use Rattle.chars.proofs.Stretches as stretches
use Rattle.chars.proofs.Stretches.{stretched, stretch_low}
use Rattle.literal.specs.Trace.{Trace, passes}
use Rattle.literal.specs.Cut.{cut}
use Rattle.literal.specs.declared.Refusal.{Refusal}
use Rattle.literal.specs.Scans.{Scanned}
use Rattle.literal.proofs.Within.{tests_within}
use Rattle.classes.specs.Marks.{backtick}
use Rattle.literal.specs.Answers.{full}
use Rattle.string_turn.specs.Take.{scanning}
use Rattle.string_turn.specs.Passing.{Plain, Added, place_behind, stood_state, StringPasses, none, some, one, then}
use Rattle.string_turn.specs.declared.take.Scanning.{Scanning}
use Rattle.string_turn.specs.declared.take.Stood.{Stood}
use Rattle.string_turn.proofs.take.Passing.{passes_low}
use Rattle.string.specs.Reading.{string_rule, rest}
use Rattle.string.proofs.Passing.{after, after_none, after_some, one_after, one_added}
use Rattle.string.specs.Standing.{Measured}

-- a character's bytes in the body are as many as in the text
same_size : (t : List ℕ) (b : ℕ) {c w : ℕ} → look_at t b ≡ char_found c w → length (encoded c) ≡ w
same_size t b {c} e = rw (encoded_scalar c (code_scalar t b e)) (size_width t b e)

module _ (t : List ℕ) (from : Cursor) (q limit room most at n : ℕ) (p f : Position) (g : n + most ≤ room) (o : 0 < most → passes limit (n + most) ≡ false) (full : Refusal) where
  abbrev view : ℕ → Trace → Scanned
  view b r = cut full limit room (n + (b - at)) r

  one_passed : (k b c w : ℕ) → at ≤ b → b + w ≤ at + most → look_at t b ≡ char_found c w → Plain q c → stretches.Plain (string_rule is_white t q from.place) t (after is_white t q from.place p f) view k b w
  one_passed k b c w l h e y =
      let z : b + w - at ≡ b - at + w = omega arith in
      ap (view b) (one_after is_white t q from.place p f k b e y)
      ∙ rw z (tests_within full limit room n most g o (b - at) w (at_width t b e).0 (omega arith) (encoded c) (same_size t b e) _ _)

  all_passed : {k b : ℕ} → StretchOf t (Plain q) at k b → b ≤ at + most
      → cut full limit room n (rest t q from.place at (scanning p f None 0)) ≡ cut full limit room (n + (b - at)) (rest t q from.place b (after is_white t q from.place p f k))
  all_passed {k} {b} x l =
      let z : n ≡ n + (at - at) = omega arith in
      ap (λ (m : ℕ). cut full limit room m (rest t q from.place at (scanning p f None 0))) z
      ∙ ap (λ (s : Scanning). view at (rest t q from.place at s)) (sym (after_none is_white t q from.place p f))
      ∙ stretched (string_rule is_white t q from.place) t (after is_white t q from.place p f) view (Plain q) at (at + most) one_passed x l

  one_more : q ≡ backtick → {c : ℕ} → look_at t at ≡ char_found c 1 → Added t (at + 1) c → at + 1 ≤ at + most
      → cut full limit room n (rest t q from.place at (scanning p f None 0))
      ≡ cut full limit room (n + (at + 1 - at)) (rest t q from.place (at + 1) (scanning (place_behind c p) (or_else f (advanced p)) None 0))
  one_more h {c} e a l =
      let z : n ≡ n + (at - at) = omega arith in
      let y : at + 1 - at ≡ at - at + 1 = omega arith in
      ap (λ (m : ℕ). cut full limit room m (rest t q from.place at (scanning p f None 0))) z
      ∙ ap (view at) (one_added is_white t q from.place p f at e h a)
      ∙ rw y (tests_within full limit room n most g o (at - at) 1 (omega arith) (omega arith) (encoded c) (same_size t at e) _ _)

module _ (t : List ℕ) (from : Cursor) (q limit room : ℕ) where
  -- what was passed is measured, where neither is in the way for so many bytes
  pub measured_passed : {u r : Stood} {n most : ℕ} → Measured t from q limit room u.at (stood_state u) n → n + most ≤ room → (0 < most → passes limit (n + most) ≡ false)
      → StringPasses t q u r → r.at ≤ u.at + most → Measured t from q limit room r.at (stood_state r) (n + (r.at - u.at))
  measured_passed {u} {n = n} i g o none l =
      let z : n + (u.at - u.at) ≡ n = omega arith in
      rw z i
  measured_passed {u} {n = n} {most} i g o (some {k = k} x y) l =
      record {
        within = omega (arith, g, l, stretch_low x);
        is = i.is ∙ rw (← after_some is_white t q from.place u.place u.first k y) (all_passed t from q limit room most u.at n u.place u.first g o (full from) x l);
      }
  measured_passed {u} {n = n} {most} i g o (one y e a) l =
      record { within = omega (arith, g, l); is = i.is ∙ one_more t from q limit room most u.at n u.place u.first g o (full from) y e a l }
  measured_passed {u} {r} {n} {most} i g o (then {v = v} x y) l =
      let low = passes_low x in
      let high = passes_low y in
      let k : n + (v.at - u.at) + (most - (v.at - u.at)) ≡ n + most = omega (arith, low, high, l) in
      let z : n + (r.at - u.at) ≡ n + (v.at - u.at) + (r.at - v.at) = omega (arith, low, high) in
      rw z (measured_passed {most = most - (v.at - u.at)} (measured_passed i g o x (omega (arith, high, l))) (omega (arith, k, g)) (λ m. rw k (o (omega (arith, m)))) y (omega (arith, low, high, l)))
