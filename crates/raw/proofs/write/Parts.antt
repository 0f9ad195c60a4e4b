-- A raw body is a part of the text: it stands where the body begins. Assumes nothing.
use Rattle.utf8.specs.Looks.{char_found}
use Rattle.std.specs.Prelude.{Err, None}
use Prim.Native.Nat.{ℕ, zero, suc, ◌+◌, ◌-◌, ◌≤◌, ◌<◌}
use native.Mathlib.Omega.{arith}
use native.Mathlib.Numerals.{add-one}
use mathlib.Core.Bool.{Bool, true, false}
use mathlib.Core.List.{List, [], ◌∷◌, ◌++◌, append_assoc}
use mathlib.Core.Path.{◌≡◌, refl, sym, ap, subst, ◌∙◌}
use lib.Dec.{eqb, ltb}
use lib.ListN.{length, replicate, take, drop, take-append-drop, length-take, length-drop}
use lib.Seq.{sets, drop-drop}
use borrow.Author.Tests.{eq-eqb, ne_eqb, lt-ltb, ltb-true, eqb-true, eqb-false}
use Rattle.basis.specs.Pick.{both}
use Rattle.basis.specs.Store.{stored}
use Rattle.basis.proofs.Cases.{both_left, both_right}
use Rattle.basis.proofs.Stores.{stored_whole}
use Rattle.position.specs.declared.Position.{Position}
use Rattle.position.specs.Place.{none, or_else, advanced}
use Rattle.utf8.proofs.Laws.{by_chars}
use Rattle.utf8.specs.Table.{ch, chars_at, look_at}
use Rattle.utf8.specs.Encode.{encode}
use Rattle.utf8.proofs.Unicode.{look_scalar_bytes}
use Rattle.chars.specs.Cursors.{cursor}
use Rattle.chars.specs.Scan.{run_at}
use Rattle.chars.specs.declared.cursor.Cursor.{Cursor}
use Rattle.chars.proofs.Reaches.{reached_high}
use Rattle.chars.proofs.Scans.{move_on, move_over, at_end_lem, one_on, is_over}
use Rattle.literal.specs.Trace.{ends, yields, bytes}
use Rattle.literal.specs.declared.Refusal.{Refusal}
use Rattle.literal.specs.Answers.{nothing}
use Rattle.raw.specs.Opening.{opened_of}
use Rattle.raw.specs.Answer.{Opened, opened_as}
use Rattle.raw.proofs.open.Leads.{Leads, opened_leads}
use Rattle.raw.specs.Raw.{raw_end, BodyState, body_state, held_back, steps, placed, at_end, body_turn, body_rule, body_of, read_of, Newlines}

-- ---- a list that stands in front of another
abbrev Front : List ℕ → List ℕ → Type 0
Front xs l = xs ≡ take (length xs) l

front_behind : (ys xs l : List ℕ) → Front xs l → Front (ys ++ xs) (ys ++ l)
front_behind [] xs l h = h
front_behind (y ∷ ys) xs l h = ap (λ (zs : List ℕ). y ∷ zs) (front_behind ys xs l h)

front_fits : (xs l : List ℕ) → Front xs l → length xs ≤ length l
front_fits xs l h = omega (arith, ap length h ∙ length-take (length xs) l)

-- the bytes of a text from an offset: those of the character there, and the rest
from_char : (t : List ℕ) (at : ℕ) {c w : ℕ} → look_at t at ≡ char_found c w → drop at t ≡ encode c ++ drop (at + w) t
from_char t at {c} {w} e = sym (take-append-drop w (drop at t)) ∙ rw (look_scalar_bytes t at e, drop-drop w at t)

-- one hash more held back
hashes_more : (n x : ℕ) (l : List ℕ) → replicate n x ++ (x ∷ l) ≡ x ∷ (replicate n x ++ l)
hashes_more zero x l = refl
hashes_more (suc n) x l = ap (λ (zs : List ℕ). x ∷ zs) (hashes_more n x l)

held_more : (n : ℕ) (l : List ℕ) → 0 < n → held_back n ++ (0x23 ∷ l) ≡ held_back (n + 1) ++ l
unfolding held_back
held_more zero l h = absurd (omega arith)
held_more (suc n) l h = rw (add-one (suc n)) (ap (λ (zs : List ℕ). 0x22 ∷ zs) (hashes_more n 0x23 l))

-- ---- the body, behind what is held back
module _ (mode : Newlines) (start : Position) (t : List ℕ) (k : ℕ) where
  abbrev rest : ℕ → BodyState → List ℕ
  rest at s = bytes (run_at (body_rule mode start k) t at s)

  abbrev Part : ℕ → Type 0
  Part at = (s : BodyState) → Front (rest at s) (held_back s.held ++ drop at t)

  no_more : (at : ℕ) → look_at t at ≡ None → Part at
  unfolding bytes at_end
  no_more at e s = rw (move_over (body_rule mode start k) t at s (at_end_lem (body_rule mode start k) t at s e))

  module _ (at : ℕ) {c w : ℕ} (e : look_at t at ≡ char_found c w) (s : BodyState) where
    -- a step that adds bytes leaves, behind them, what is then held back and the rest of the text
    step : (bs : List ℕ) (n : ℕ) (p : Position) → body_turn mode start k at (ch c w ∷ chars_at t (at + w)) s ≡ steps start k (at + w) s.first bs n p
        → held_back s.held ++ drop at t ≡ bs ++ (held_back n ++ drop (at + w) t) → Part (at + w) → Front (rest at s) (held_back s.held ++ drop at t)
    unfolding bytes yields
    step bs n p q h ih =
        rw (move_on (body_rule mode start k) t at s (one_on (body_rule mode start k) t at s e q), h)
        (front_behind bs (rest (at + w) (body_state n p (or_else s.first p))) (held_back n ++ drop (at + w) t) (ih (body_state n p (or_else s.first p))))

    quoted : c ≡ 0x22 → Part (at + w) → Front (rest at s) (held_back s.held ++ drop at t)
    unfolding body_turn held_back encode
    quoted h ih = step (held_back s.held) 1 (advanced s.place) (rw (eq-eqb c 0x22 h)) (ap (λ (l : List ℕ). held_back s.held ++ l) (from_char t at e ∙ ap (λ (x : ℕ). encode x ++ drop (at + w) t) h)) ih

    module _ (m : c ≡ 0x22 → ⊥) where
      hashed : 0 < s.held → c ≡ 0x23 → (b : Bool) → eqb s.held k ≡ b → Part (at + w) → Front (rest at s) (held_back s.held ++ drop at t)
      unfolding body_turn encode bytes
      hashed z h true q ih =
          rw (move_over (body_rule mode start k) t at s (is_over (body_rule mode start k) t at s e {r = ends (raw_end (cursor (at + w) (advanced s.place)) s.first nothing)} (rw (ne_eqb c 0x22 m, lt-ltb 0 s.held z, eq-eqb c 0x23 h, q))))
      hashed z h false q ih =
          step [] (s.held + 1) (advanced s.place) (rw (ne_eqb c 0x22 m, lt-ltb 0 s.held z, eq-eqb c 0x23 h, q))
          (ap (λ (l : List ℕ). held_back s.held ++ l) (from_char t at e ∙ ap (λ (x : ℕ). encode x ++ drop (at + w) t) h) ∙ held_more s.held (drop (at + w) t) z) ih

      kept : both (ltb 0 s.held) (eqb c 0x23) ≡ false → Part (at + w) → Front (rest at s) (held_back s.held ++ drop at t)
      unfolding body_turn held_back
      kept o ih =
          step (held_back s.held ++ encode c) 0 (placed mode s.held c (advanced s.place)) (rw (ne_eqb c 0x22 m, o)) (ap (λ (l : List ℕ). held_back s.held ++ l) (from_char t at e) ∙ sym (append_assoc (held_back s.held) (encode c) (drop (at + w) t))) ih

      other : (b : Bool) → both (ltb 0 s.held) (eqb c 0x23) ≡ b → Part (at + w) → Front (rest at s) (held_back s.held ++ drop at t)
      other true q ih = hashed (ltb-true 0 s.held (both_left (ltb 0 s.held) (eqb c 0x23) q)) (eqb-true c 0x23 (both_right (ltb 0 s.held) (eqb c 0x23) q)) (eqb s.held k) refl ih
      other false q ih = kept q ih

    any : (b : Bool) → eqb c 0x22 ≡ b → Part (at + w) → Front (rest at s) (held_back s.held ++ drop at t)
    any true q ih = quoted (eqb-true c 0x22 q) ih
    any false q ih = other (eqb-false c 0x22 q) (both (ltb 0 s.held) (eqb c 0x23)) refl ih

  part : (at : ℕ) → Part at
  part = by_chars t Part no_more (λ at c w e ih s. any at e s (eqb c 0x22) refl ih)

-- the body that begins at a cursor stands there in the text, and has room there
module _ (mode : Newlines) (start : Position) (t : List ℕ) (k : ℕ) (from : Cursor) where
  pub stands_there : bytes (body_of mode t start k from) ≡ take (length (bytes (body_of mode t start k from))) (drop from.at t)
  unfolding body_of held_back
  stands_there = part mode start t k from.at (body_state 0 from.place none)

  has_room : from.at ≤ length t → from.at + length (bytes (body_of mode t start k from)) ≤ length t
  has_room h = let g = front_fits (bytes (body_of mode t start k from)) (drop from.at t) stands_there in omega (arith, length-drop from.at t)

-- what is written of a body, from what the opening leads to
module _ (mode : Newlines) (t : List ℕ) (start : Cursor) (k : ℕ) {r : Opened} (e : r ≡ opened_of t start k) where
  pub nothing_to_write : {f : Refusal} → r ≡ Err f → (l : List ℕ) → l ≡ sets l 0 (bytes (read_of mode t start k))
  unfolding read_of bytes
  nothing_to_write q l = rw (← e, q)

  module _ {j : ℕ} {from : Cursor} (q : r ≡ opened_as j from) {n : ℕ} (h : n ≡ length (bytes (read_of mode t start k))) where
    is_body : read_of mode t start k ≡ body_of mode t start.place j from
    unfolding read_of
    is_body = rw (← e, q)

    pub reaches : start.at ≤ length t → from.at + n ≤ length t
    reaches g =
        let w = subst (Leads t start.at) (sym e ∙ q) (opened_leads t start k) in
        rw (h, is_body) (has_room mode start.place t j from (reached_high w.1 g))

    pub written : (l : List ℕ) {l' : List ℕ} → n ≤ length l → l' ≡ stored l 0 (take (from.at + n - from.at) (drop from.at t)) → l' ≡ sets l 0 (bytes (read_of mode t start k))
    written l g w =
        let z : from.at + n - from.at ≡ n = omega arith in
        let b : take (from.at + n - from.at) (drop from.at t) ≡ bytes (read_of mode t start k) = rw (z, h, is_body) (sym (stands_there mode start.place t j from)) in
        w ∙ rw b (stored_whole l 0 (bytes (read_of mode t start k)) (omega arith))
