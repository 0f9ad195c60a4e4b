-- The turn of a body, for each way through the code. Assumes nothing.
use Rattle.chars.specs.Takes.{char_taken}
use Rattle.std.specs.Prelude.{None}
use Prim.Native.Nat.{ℕ, zero, suc, ◌+◌, ◌-◌, ◌≤◌, ◌<◌}
use native.Mathlib.Omega.{arith}
use mathlib.Core.Bool.{true, false}
use mathlib.Core.List.{List, [], ◌++◌}
use mathlib.Core.Path.{◌≡◌, refl, sym, ap}
use lib.Dec.{eqb, ltb}
use lib.ListN.{length, length-append, length-replicate}
use borrow.Author.Tests.{eq-eqb, ne_eqb, lt-ltb, le-ltb}
use Rattle.basis.specs.Pick.{both}
use Rattle.basis.proofs.Cases.{both_no}
use Rattle.position.specs.declared.Position.{Position}
use Rattle.position.specs.Place.{or_else, advanced, lined}
use Rattle.utf8.specs.Encode.{encode}
use Rattle.utf8.proofs.Unicode.{size_width}
use Rattle.chars.specs.Cursors.{cursor, eat_next_of}
use Rattle.chars.specs.Scan.{move_at, over}
use Rattle.chars.specs.declared.cursor.Cursor.{Cursor}
use Rattle.chars.proofs.Cursors.{Took, ate_took, ate_ended}
use Rattle.chars.proofs.Scans.{at_end_lem, one_on, is_over}
use Rattle.literal.specs.Trace.{ends}
use Rattle.literal.specs.Answers.{nothing}
use Rattle.raw.specs.Raw.{as_source, hashes_of, raw_end, BodyState, body_state, held_back, placed, at_end, body_turn, body_rule, Newlines, starts_line, as_the_source, corrected}
use Rattle.raw.specs.Step.{Adds}

-- the bytes held back are as many as they are counted
pub length_held : (n : ℕ) → length (held_back n) ≡ n
unfolding held_back
length_held zero = refl
length_held (suc n) = ap suc (length-replicate n 0x23)

-- outside an attempt to close every line feed starts a line
starts_free : (mode : Newlines) {held : ℕ} → held ≤ 0 → starts_line mode held ≡ true
starts_free as_the_source {held} z = eq-eqb held 0 (omega arith)
starts_free corrected z = refl

-- the place behind a kept character
pub placed_line : (mode : Newlines) {held c : ℕ} (p : Position) → c ≡ 0x0A → held ≤ 0 → placed mode held c p ≡ lined p
unfolding placed
placed_line mode {held} {c} p e z = rw (eq-eqb c 0x0A e, starts_free mode z)

pub placed_other : (mode : Newlines) (held : ℕ) {c : ℕ} (p : Position) → (c ≡ 0x0A → ⊥) → placed mode held c p ≡ p
unfolding placed
placed_other mode held {c} p n = rw (ne_eqb c 0x0A n)

pub placed_held : {held : ℕ} (c : ℕ) (p : Position) → 0 < held → placed as_source held c p ≡ p
unfolding placed
placed_held {held} c p h = rw (ne_eqb held 0 (λ q. omega arith), both_no)

module _ (mode : Newlines) (t : List ℕ) (k at : ℕ) (s : BodyState) where
  -- the text ends
  pub ends_open : eat_next_of t (cursor at s.place) ≡ None → (start : Position)
      → move_at (body_rule mode start k) t at s ≡ over (ends (raw_end (cursor at s.place) s.first (hashes_of k)))
  unfolding at_end
  ends_open e start = at_end_lem (body_rule mode start k) t at s (ate_ended t (cursor at s.place) e)

  module _ {c : ℕ} {next : Cursor} (e : eat_next_of t (cursor at s.place) ≡ char_taken c next) where
    abbrev took : Took t at (advanced s.place) c next
    took = ate_took t (cursor at s.place) e

    -- a quote begins an attempt to close, or restarts one
    pub quote_adds : c ≡ 0x22 → Adds mode t k at s s.held next.at (body_state 1 next.place (or_else s.first next.place))
    unfolding body_turn
    quote_adds h =
        record {
          bytes = held_back s.held;
          count = length_held s.held;
          moves = λ start. rw took.stands (one_on (body_rule mode start k) t at s took.found (rw (eq-eqb c 0x22 h)));
        }

    module _ (h : c ≡ 0x23) (z : 0 < s.held) where
      -- the last hash of an attempt closes the literal
      pub hash_closes : s.held ≡ k → (start : Position) → move_at (body_rule mode start k) t at s ≡ over (ends (raw_end next s.first nothing))
      unfolding body_turn
      hash_closes q start =
          rw took.stands (is_over (body_rule mode start k) t at s took.found
          (rw (ne_eqb c 0x22 (λ q. omega arith), lt-ltb 0 s.held z, eq-eqb c 0x23 h, eq-eqb s.held k q)))

      -- an earlier one is held back
      pub hash_adds : (s.held ≡ k → ⊥) → Adds mode t k at s 0 next.at (body_state (s.held + 1) next.place (or_else s.first next.place))
      unfolding body_turn
      hash_adds n =
          record {
            bytes = [];
            count = refl;
            moves = λ start. rw took.stands (one_on (body_rule mode start k) t at s took.found
                (rw (ne_eqb c 0x22 (λ q. omega arith), lt-ltb 0 s.held z, eq-eqb c 0x23 h, ne_eqb s.held k n)));
          }

    -- any other character is kept, behind what was held back
    pub kept_adds : {n : ℕ} {p : Position} → (c ≡ 0x22 → ⊥) → both (ltb 0 s.held) (eqb c 0x23) ≡ false → n ≡ s.held + (next.at - at) → placed mode s.held c next.place ≡ p
        → Adds mode t k at s n next.at (body_state 0 p (or_else s.first p))
    unfolding body_turn
    kept_adds {n} {p} m o q r =
        let w = size_width t at took.found in
        let v : next.at ≡ at + took.width = ap (λ (x : Cursor). x.at) took.stands in
        let u : advanced s.place ≡ next.place = ap (λ (x : Cursor). x.place) (sym took.stands) in
        record {
          bytes = held_back s.held ++ encode c;
          count = simp (length-append, length_held, w) (omega arith);
          moves = λ start. rw (← r, ← u, v) (one_on (body_rule mode start k) t at s took.found (rw (ne_eqb c 0x22 m, o)));
        }

    module _ {n : ℕ} (m : c ≡ 0x22 → ⊥) where
      -- outside an attempt
      module _ (z : s.held ≤ 0) (q : n ≡ next.at - at) where
        pub line_adds : c ≡ 0x0A → Adds mode t k at s n next.at (body_state 0 (lined next.place) (or_else s.first (lined next.place)))
        line_adds l = kept_adds m (rw (le-ltb 0 s.held z)) (omega arith) (placed_line mode next.place l z)

        pub plain_adds : (c ≡ 0x0A → ⊥) → Adds mode t k at s n next.at (body_state 0 next.place (or_else s.first next.place))
        plain_adds l = kept_adds m (rw (le-ltb 0 s.held z)) (omega arith) (placed_other mode s.held next.place l)

-- where it ends an attempt, an LF starts no line in the source's mode
module _ (t : List ℕ) (k at : ℕ) (s : BodyState) {c : ℕ} {next : Cursor} (e : eat_next_of t (cursor at s.place) ≡ char_taken c next) where
  pub failed_adds : {n : ℕ} → (c ≡ 0x22 → ⊥) → 0 < s.held → (c ≡ 0x23 → ⊥) → n ≡ s.held + (next.at - at)
      → Adds as_source t k at s n next.at (body_state 0 next.place (or_else s.first next.place))
  failed_adds m z h q = kept_adds as_source t k at s e m (rw (ne_eqb c 0x23 h, both_no)) q (placed_held c next.place z)
