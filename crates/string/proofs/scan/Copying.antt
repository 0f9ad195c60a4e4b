-- Plain characters copied at once: they stand in the text as in the body. Assumes nothing.
use Rattle.utf8.specs.Looks.{char_found}
use Rattle.std.specs.Prelude.{None}
use Prim.Native.Nat.{ℕ, zero, suc, ◌+◌, ◌-◌, ◌≤◌, ◌<◌}
use native.Mathlib.Omega.{arith}
use native.Mathlib.Nat.{zero-add, suc-add}
use mathlib.Core.Bool.{Bool, true, false}
use mathlib.Core.List.{List, [], ◌∷◌, ◌++◌, append_assoc}
use mathlib.Core.Logic.{⊎_elim}
use mathlib.Core.Path.{◌≡◌, refl, sym, ap, ◌∙◌}
use lib.ListN.{length, take, drop, length-drop}
use lib.Seq.{drop-drop, length-take-le}
use Rattle.basis.specs.Pick.{pick}
use Rattle.basis.proofs.Bounds.{split}
use Rattle.basis.specs.Store.{fits, stored}
use Rattle.position.specs.declared.Position.{Position}
use Rattle.position.specs.Place.{or_else, advanced}
use Rattle.utf8.specs.Table.{look_at}
use Rattle.utf8.specs.Encode.{encoded}
use Rattle.utf8.proofs.Encodes.{encoded_scalar}
use Rattle.utf8.proofs.Unicode.{code_scalar, look_scalar_bytes}
use Rattle.white.specs.White.{is_white}
use Rattle.chars.specs.Stretch.{StretchOf}
use Rattle.chars.specs.declared.cursor.Cursor.{Cursor}
use Rattle.chars.proofs.Stretches as stretches
use Rattle.chars.proofs.Stretches.{stretched}
use Rattle.literal.specs.Trace.{Trace, adds, checks, bytes}
use Rattle.literal.specs.declared.Refusal.{Refusal}
use Rattle.classes.specs.Marks.{backtick}
use Rattle.string_turn.specs.Take.{scanning}
use Rattle.string_turn.specs.Passing.{Plain, Added, place_behind, stood_state, StringPasses, none, some, one, then}
use Rattle.string_turn.specs.declared.take.Scanning.{Scanning}
use Rattle.string_turn.specs.declared.take.Stood.{Stood}
use Rattle.string_turn.proofs.take.Passing.{passes_low, passes_within}
use Rattle.string.specs.Reading.{string_rule, rest}
use Rattle.string.proofs.Passing.{one_after, one_added, after_none, after_some}
use Rattle.string.proofs.Passing as passing
use Rattle.string.specs.Standing.{WrittenSoFar}
use Rattle.string.proofs.scan.Writing.{written_on}

-- ---- parts of a text
take_nil : (w : ℕ) → take {A = ℕ} w [] ≡ []
take_nil zero = refl
take_nil (suc w) = refl

take_more : (i w : ℕ) (l : List ℕ) → take (i + w) l ≡ take i l ++ take w (drop i l)
take_more zero w l = rw (zero-add w)
take_more (suc i) w [] = rw (suc-add i w) (sym (take_nil w))
take_more (suc i) w (x ∷ l) = rw (suc-add i w) (ap (λ (m : List ℕ). x ∷ m) (take_more i w l))

abbrev pub part : List ℕ → ℕ → ℕ → List ℕ
part t at to = take (to - at) (drop at t)

part_none : (t : List ℕ) (at to : ℕ) → to ≤ at → part t at to ≡ []
part_none t at to h = let z : to - at ≡ 0 = omega arith in rw z

-- nothing is copied
same_either_way : {A : Type 0} (b : Bool) (x : A) → x ≡ pick b x x
same_either_way true x = refl
same_either_way false x = refl

pub stored_nothing : (t out : List ℕ) (at to n : ℕ) → to ≤ at → out ≡ stored out n (part t at to)
unfolding stored
stored_nothing t out at to n h = rw (part_none t at to h) (same_either_way (fits out n []) out)

part_char : (t : List ℕ) (at b : ℕ) {c w : ℕ} → at ≤ b → look_at t b ≡ char_found c w → part t at b ++ encoded c ≡ part t at (b + w)
part_char t at b {c} {w} h e =
    let z : b + w - at ≡ b - at + w = omega arith in
    let y : at + (b - at) ≡ b = omega arith in
    rw (z, take_more (b - at) w (drop at t), drop-drop (b - at) at t, y, look_scalar_bytes t b e, encoded_scalar c (code_scalar t b e))

-- two parts are one
part_on : (t : List ℕ) (at a b : ℕ) → at ≤ a → a ≤ b → part t at a ++ part t a b ≡ part t at b
part_on t at a b h l =
    let z : b - at ≡ a - at + (b - a) = omega arith in
    let y : at + (a - at) ≡ a = omega arith in
    rw (z, take_more (a - at) (b - a) (drop at t), drop-drop (a - at) at t, y)

-- ---- the bytes of what was passed
module _ (t : List ℕ) (q : ℕ) (start : Position) (at : ℕ) where
  abbrev view : ℕ → Trace → List ℕ
  view b r = part t at b ++ bytes r

  read : (b c : ℕ) (f : Refusal) (r : Trace) → view b (checks f (adds (encoded c) r)) ≡ (part t at b ++ encoded c) ++ bytes r
  unfolding bytes
  read b c f r = sym (append_assoc (part t at b) (encoded c) (bytes r))

  module _ (p f : Position) where
    abbrev after' : ℕ → Scanning
    after' k = passing.after is_white t q start p f k

    one_passed : (k b c w : ℕ) → at ≤ b → look_at t b ≡ char_found c w → Plain q c → stretches.Plain (string_rule is_white t q start) t after' view k b w
    one_passed k b c w h e y =
        ap (view b) (one_after is_white t q start p f k b e y) ∙ read b c _ _ ∙ ap (λ (l : List ℕ). l ++ bytes (rest t q start (b + w) (after' (k + 1)))) (part_char t at b h e)

    all_passed : {k b : ℕ} → StretchOf t (Plain q) at k b → bytes (rest t q start at (scanning p f None 0)) ≡ part t at b ++ bytes (rest t q start b (after' k))
    all_passed {k} {b} x =
        ap (λ (l : List ℕ). l ++ bytes (rest t q start at (scanning p f None 0))) (sym (part_none t at at (omega arith)))
        ∙ ap (λ (s : Scanning). view at (rest t q start at s)) (sym (after_none is_white t q start p f))
        ∙ stretched (string_rule is_white t q start) t after' view (Plain q) at b (λ k b c w h l. one_passed k b c w h) x (omega arith)

    one_more : q ≡ backtick → {c : ℕ} → look_at t at ≡ char_found c 1 → Added t (at + 1) c
        → bytes (rest t q start at (scanning p f None 0)) ≡ part t at (at + 1) ++ bytes (rest t q start (at + 1) (scanning (place_behind c p) (or_else f (advanced p)) None 0))
    one_more h {c} e a =
        ap (λ (l : List ℕ). l ++ bytes (rest t q start at (scanning p f None 0))) (sym (part_none t at at (omega arith)))
        ∙ ap (view at) (one_added is_white t q start p f at e h a)
        ∙ read at c _ _
        ∙ ap (λ (l : List ℕ). l ++ bytes (rest t q start (at + 1) (scanning (place_behind c p) (or_else f (advanced p)) None 0))) (part_char t at at (omega arith) e)

part_size : (t : List ℕ) (at to : ℕ) → (at < to → to ≤ length t) → length (part t at to) ≡ to - at
part_size t at to h =
    ⊎_elim (λ l. length-take-le (to - at) (drop at t) (omega (arith, length-drop at t, h l)))
    (λ l. rw (part_none t at to l) (omega (arith, l)))
    (split at to)

module _ (t : List ℕ) (q : ℕ) (start : Position) where
  pub passed_bytes : {u r : Stood} → StringPasses t q u r → bytes (rest t q start u.at (stood_state u)) ≡ part t u.at r.at ++ bytes (rest t q start r.at (stood_state r))
  passed_bytes {u} none = rw (part_none t u.at u.at (omega arith))
  passed_bytes {u} (some {k = k} x y) = rw (← after_some is_white t q start u.place u.first k y) (all_passed t q start u.at u.place u.first x)
  passed_bytes {u} (one y e a) = one_more t q start u.at u.place u.first y e a
  passed_bytes {u} {r} (then {v = v} x y) =
      passed_bytes x
      ∙ ap (λ (l : List ℕ). part t u.at v.at ++ l) (passed_bytes y)
      ∙ sym (append_assoc (part t u.at v.at) (part t v.at r.at) (bytes (rest t q start r.at (stood_state r))))
      ∙ ap (λ (l : List ℕ). l ++ bytes (rest t q start r.at (stood_state r))) (part_on t u.at v.at r.at (passes_low x) (passes_low y))

-- ---- the loop
module _ (t : List ℕ) (q : ℕ) (from : Cursor) (old out : List ℕ) (u : Stood) (n : ℕ) (i : WrittenSoFar t q from old out u.at (stood_state u) n) where
  pub written_passed : {r : Stood} → StringPasses t q u r → {l : List ℕ} → l ≡ stored out n (part t u.at r.at) → WrittenSoFar t q from old l r.at (stood_state r) (n + (r.at - u.at))
  written_passed {r} x v = written_on t q from old out u.at (stood_state u) n i (part t u.at r.at) (passed_bytes t q from.place x) (rw (part_size t u.at r.at (passes_within x))) v
