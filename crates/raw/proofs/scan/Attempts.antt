-- An attempt to close, a quote and the hashes behind it, as long as they are too few: nothing is added while it lasts. Assumes nothing.
use Rattle.utf8.specs.Looks.{char_found}
use Prim.Native.Nat.{ℕ, ◌+◌, ◌≤◌, ◌<◌}
use native.Mathlib.Omega.{arith}
use mathlib.Core.Bool.{false}
use mathlib.Core.List.{List}
use mathlib.Core.Path.{◌≡◌, refl, ap, ◌∙◌}
use lib.ListN.{length}
use Rattle.position.specs.declared.Position.{Position}
use Rattle.position.specs.Place.{or_else, advanced, advanced_by}
use Rattle.position.proofs.Moves.{advanced_by_none, advanced_by_more, first_stays}
use Rattle.utf8.specs.Table.{look_at}
use Rattle.utf8.proofs.Laws.{at_width}
use Rattle.chars.specs.Cursors.{cursor}
use Rattle.chars.specs.Scan.{run_at}
use Rattle.chars.proofs.Cursors.{ate}
use Rattle.literal.specs.Trace.{passes}
use Rattle.literal.specs.Cut.{cut}
use Rattle.literal.specs.declared.Refusal.{Refusal}
use Rattle.literal.specs.Scans.{Scanned}
use Rattle.raw.specs.Raw.{as_source, BodyState, body_state, body_rule}
use Rattle.raw.specs.Step.{Hashes, none, more}
use Rattle.raw.proofs.scan.Turns.{quote_adds, hash_adds}
use Rattle.raw.proofs.scan.Loops.{goes_on}

-- hashes end within the text
pub hashes_within : {t : List ℕ} {at n : ℕ} → Hashes t at n → at ≤ length t → at + n ≤ length t
hashes_within none l = omega (arith, l)
hashes_within {t} {at} (more {n} h e) l = let w = (at_width t (at + n) e).1 in omega (arith, w)

one_column : (p : Position) → advanced_by 1 p ≡ advanced p
one_column p = advanced_by_more 0 p ∙ ap advanced (advanced_by_none p)

-- behind a quote and n hashes
abbrev pub attempt : ℕ → Position → Position → BodyState
attempt n p f = body_state (n + 1) (advanced_by (n + 1) p) (or_else f (advanced p))

module _ (t : List ℕ) (k from : ℕ) (p f : Position) (start : Position) (full : Refusal) (limit room m : ℕ) (g : m ≤ room) (o : passes limit m ≡ false) where
  abbrev left : ℕ → BodyState → Scanned
  left at s = cut full limit room m (run_at (body_rule as_source start k) t at s)

  -- one hash more
  hash_on : (n : ℕ) → look_at t (from + 1 + n) ≡ char_found 0x23 1 → n + 1 < k → left (from + 1 + n) (attempt n p f) ≡ left (from + 1 + (n + 1)) (attempt (n + 1) p f)
  hash_on n e l =
      let at = from + 1 + n in
      let s = attempt n p f in
      let on = advanced s.place in
      let z : at + 1 ≡ from + 1 + (n + 1) = omega arith in
      let same : left (at + 1) (body_state (n + 1 + 1) on (or_else s.first on)) ≡ left (from + 1 + (n + 1)) (attempt (n + 1) p f) =
      rw (z, advanced_by_more (n + 1) p, first_stays f p on) in
      goes_on as_source start t k at s full limit room m (hash_adds as_source t k at s (ate t (cursor at s.place) e) refl (omega arith) (λ q. omega (arith, q, l))) g (omega arith) g o ∙ same

  pub attempted : look_at t from ≡ char_found 0x22 1 → {n : ℕ} → Hashes t (from + 1) n → n < k → left from (body_state 0 p f) ≡ left (from + 1 + n) (attempt n p f)
  attempted one none l =
      let z : from + 1 + 0 ≡ from + 1 = omega arith in
      rw (z, one_column p) (goes_on as_source start t k from (body_state 0 p f) full limit room m (quote_adds as_source t k from (body_state 0 p f) (ate t (cursor from p) one) refl) g (omega arith) g o)
  attempted one (more {n} h e) l = attempted one h (omega (arith, l)) ∙ hash_on n e l
