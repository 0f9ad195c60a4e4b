-- What is held back and where the scan stands behind a character, for each way through the code; and the turn of a body as they tell it. Assumes nothing.
use Rattle.chars.specs.Takes.{char_taken}
use Prim.Native.Nat.{ℕ, ◌+◌, ◌-◌, ◌≤◌, ◌<◌}
use native.Mathlib.Omega.{arith}
use mathlib.Core.Bool.{Bool, true, false}
use mathlib.Core.List.{List}
use mathlib.Core.Path.{◌≡◌, refl, ap, ◌∙◌}
use lib.Dec.{eqb, ltb}
use lib.ListN.{length}
use borrow.Author.Tests.{eq-eqb, ne_eqb, lt-ltb, eqb-true, eqb-false, ltb-true}
use Rattle.basis.specs.Pick.{both}
use Rattle.basis.proofs.Cases.{both_left, both_right}
use Rattle.position.specs.declared.Position.{Position}
use Rattle.position.specs.Place.{or_else, advanced}
use Rattle.utf8.specs.Encode.{encode}
use Rattle.utf8.proofs.Unicode.{size_width}
use Rattle.chars.specs.Cursors.{cursor, eat_next_of}
use Rattle.chars.specs.Scan.{move_at, over}
use Rattle.chars.specs.declared.cursor.Cursor.{Cursor}
use Rattle.chars.proofs.Cursors.{Took, ate_took}
use Rattle.literal.specs.Trace.{ends}
use Rattle.literal.specs.Answers.{nothing}
use Rattle.raw.specs.Raw.{raw_end, BodyState, body_state, placed, body_rule, Newlines}
use Rattle.raw.specs.Step.{Adds, held_behind, cursor_behind}
use Rattle.raw.proofs.scan.Turns.{placed_other, quote_adds, hash_closes, hash_adds, kept_adds}

-- how many bytes are held back
module _ {c : ℕ} (held : ℕ) where
  held_quote : c ≡ 0x22 → held_behind c held ≡ 1
  unfolding held_behind
  held_quote h = rw (eq-eqb c 0x22 h)

  module _ (m : c ≡ 0x22 → ⊥) where
    held_none : both (ltb 0 held) (eqb c 0x23) ≡ false → held_behind c held ≡ 0
    unfolding held_behind
    held_none o = rw (ne_eqb c 0x22 m, o)

    held_hash : (held ≡ 0 → ⊥) → c ≡ 0x23 → held_behind c held ≡ held + 1
    unfolding held_behind
    held_hash z h = rw (ne_eqb c 0x22 m, lt-ltb 0 held (omega (arith, z)), eq-eqb c 0x23 h)

-- the character that was taken from a body, and the bytes that are held back behind it
module _ (mode : Newlines) (t : List ℕ) (k at : ℕ) (s : BodyState) {c : ℕ} {next : Cursor} (e : eat_next_of t (cursor at s.place) ≡ char_taken c next) {held : ℕ} (h : held ≡ held_behind c s.held) where
  abbrev took : Took t at (advanced s.place) c next
  took = ate_took t (cursor at s.place) e

  -- a quote and a hash are one byte long
  one_byte : length (encode c) ≡ 1 → next.at ≡ at + 1
  one_byte h =
      let v : next.at ≡ at + took.width = ap (λ (x : Cursor). x.at) took.stands in
      omega (arith, v, h, size_width t at took.found)

  quote_byte : c ≡ 0x22 → next.at ≡ at + 1
  unfolding encode
  quote_byte q = one_byte (rw q)

  hash_byte : c ≡ 0x23 → next.at ≡ at + 1
  unfolding encode
  hash_byte q = one_byte (rw q)

  -- how many bytes a turn adds: those held back and the character's, but for those held back then
  abbrev pub more : ℕ
  more = s.held + (next.at - at) - held

  -- what a turn tells by the bytes that are held back then: no more than were read; up to k of them, it goes on; beyond, it closes
  pub record Tells : Type 0 where
    pub fits : held ≤ s.held + (next.at - at)
    pub on : held ≤ k → Adds mode t k at s more next.at (body_state held (placed mode s.held c next.place) (or_else s.first (placed mode s.held c next.place)))
    pub shut : k < held → (start : Position) → move_at (body_rule mode start k) t at s ≡ over (ends (raw_end next s.first nothing))

  module _ (one : 1 ≤ k) (small : s.held ≤ k) where
    at_quote : c ≡ 0x22 → Tells
    at_quote q =
        let w = quote_byte q in
        let o : held ≡ 1 = h ∙ held_quote s.held q in
        let m : more ≡ s.held = omega (arith, w, o) in
        record {
          fits = omega (arith, w, o);
          on = λ l. rw (m, o, placed_other mode s.held {c = c} next.place (λ r. omega (arith, q, r))) (quote_adds mode t k at s e q);
          shut = λ l. absurd (omega (arith, l, o, one));
        }

    at_hash : (c ≡ 0x22 → ⊥) → 0 < s.held → c ≡ 0x23 → Tells
    at_hash m z q =
        let w = hash_byte q in
        let o : held ≡ s.held + 1 = h ∙ held_hash s.held m (λ r. omega (arith, r)) q in
        let d : more ≡ 0 = omega (arith, w, o) in
        record {
          fits = omega (arith, w, o);
          on = λ l. rw (d, o, placed_other mode s.held {c = c} next.place (λ r. omega (arith, q, r))) (hash_adds mode t k at s e q z (λ r. omega (arith, l, o, r)));
          shut = λ l. hash_closes mode t k at s e q z (omega (arith, l, o, small));
        }

    at_other : (c ≡ 0x22 → ⊥) → both (ltb 0 s.held) (eqb c 0x23) ≡ false → Tells
    at_other m q =
        let o : held ≡ 0 = h ∙ held_none s.held m q in
        record { fits = omega (arith, o); on = λ l. rw o (kept_adds mode t k at s e m q (omega arith) refl); shut = λ l. absurd (omega (arith, l, o)) }

    by_hash : (c ≡ 0x22 → ⊥) → (b : Bool) → both (ltb 0 s.held) (eqb c 0x23) ≡ b → Tells
    by_hash m true q = at_hash m (ltb-true 0 s.held (both_left (ltb 0 s.held) (eqb c 0x23) q)) (eqb-true c 0x23 (both_right (ltb 0 s.held) (eqb c 0x23) q))
    by_hash m false q = at_other m q

    by_quote : (b : Bool) → eqb c 0x22 ≡ b → Tells
    by_quote true q = at_quote (eqb-true c 0x22 q)
    by_quote false q = by_hash (eqb-false c 0x22 q) (both (ltb 0 s.held) (eqb c 0x23)) refl

    pub tells : Tells
    tells = by_quote (eqb c 0x22) refl

    -- where it goes on, in the words of the code
    pub goes : {here : Cursor} {first : Position} → here ≡ cursor_behind mode c s.held next → first ≡ or_else s.first here.place → held ≤ k → Adds mode t k at s more here.at (body_state held here.place first)
    goes p f l = rw (f, p) (tells.on l)
