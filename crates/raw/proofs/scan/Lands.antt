-- Where a raw literal ends. Assumes nothing.
use Rattle.utf8.specs.Looks.{char_found}
use Rattle.std.specs.Prelude.{Err, Ok}
use Prim.Native.Nat.{ℕ, zero, suc, ◌+◌, ◌≤◌}
use native.Mathlib.Omega.{arith}
use mathlib.Core.List.{List, ◌∷◌}
use mathlib.Core.Path.{◌≡◌, refl, ap}
use lib.Dec.{eqb, ltb}
use lib.ListN.{length, length-append, length-replicate}
use Rattle.basis.specs.Pick.{both}
use Rattle.basis.proofs.Cases.{pick_cases}
use Rattle.position.specs.declared.Position.{Position}
use Rattle.position.specs.Place.{none}
use Rattle.utf8.specs.Table.{ch, chars_at, look_at}
use Rattle.utf8.specs.Encode.{encode}
use Rattle.utf8.proofs.Encodes.{size_bounds}
use Rattle.utf8.proofs.Laws.{at_width}
use Rattle.chars.specs.Scan.{Turn, go, stop}
use Rattle.chars.specs.declared.cursor.Cursor.{Cursor}
use Rattle.chars.proofs.Holds.{scan_holds}
use Rattle.chars.proofs.Reaches.{reached_low, reached_high}
use Rattle.literal.specs.Trace.{Trace, Yield, bytes, final}
use Rattle.literal.proofs.Lands.{LandsFrom, size, earlier, lands_behind}
use Rattle.classes.specs.Marks.{hash, quote}
use Rattle.raw.specs.Opening.{opened_of}
use Rattle.raw.specs.Answer.{Opened}
use Rattle.raw.proofs.open.Leads.{Leads, opened_leads}
use Rattle.raw.specs.Raw.{BodyState, body_state, held_back, Newlines, at_end, body_turn, body_rule, body_of, behind_opening, read_of}

-- as many bytes are held back as the state says
pub held_length : (n : ℕ) → length (held_back n) ≡ n
unfolding held_back
held_length zero = refl
held_length (suc n) = ap suc (length-replicate n hash)

module _ (mode : Newlines) (t : List ℕ) (start : Position) where
  module _ (k : ℕ) where
    -- a turn adds no more than four bytes beside those that were held back
    abbrev Turned : ℕ → ℕ → Turn BodyState (List Yield) Trace → Type 0
    Turned at held (go ys j r) = size ys + r.held ≤ held + 4
    Turned at held (stop r) = LandsFrom t at held r

    turned : (at c w : ℕ) (s : BodyState) → look_at t at ≡ char_found c w → Turned at s.held (body_turn mode start k at (ch c w ∷ chars_at t (at + w)) s)
    unfolding body_turn bytes final
    turned at c w s e =
        let h = at_width t at e in
        let n = held_length s.held in
        pick_cases (Turned at s.held) (eqb c quote) _ _ (λ y. omega (arith, n))
        (λ n. pick_cases (Turned at s.held) (both (ltb 0 s.held) (eqb c hash)) _ _
        (λ y. pick_cases (Turned at s.held) (eqb s.held k) _ _ (λ z. (omega (arith, h), λ l. h.1, λ u. omega (arith, h))) (λ z. omega arith))
        (λ m. rw (length-append (held_back s.held) (encode c), held_length s.held) (omega (arith, (size_bounds c).1))))

    body_lands : 1 ≤ k → (from : Cursor) → LandsFrom t from.at 0 (body_of mode t start k from)
    unfolding body_of at_end bytes final
    body_lands some from =
        scan_holds (body_rule mode start k) t (λ at s r. LandsFrom t at s.held r)
        (λ at s. (omega arith, λ h. h, λ z. absurd (omega arith)))
        (λ at c w s r e x. rw x at (turned at c w s e))
        (λ at c w s ys j r e x to y h l. lands_behind t at to s.held r.held ys y h l (rw x at (turned at c w s e)))
        from.at (body_state 0 from.place none)

  left_lands : (at : ℕ) → at ≤ length t → (x : Opened) → Leads t at x → LandsFrom t at 0 (behind_opening mode t start x)
  unfolding final
  left_lands at l (Ok (k, from)) (n, r) =
      earlier t at from.at 0 _ (reached_low r) (reached_high r l) (final (body_of mode t start k from)) (body_lands k n from)
  left_lands at l (Err f) h = tt

pub raw_lands : (mode : Newlines) (t : List ℕ) (from : Cursor) → from.at ≤ length t → LandsFrom t from.at 0 (read_of mode t from 0)
unfolding read_of
raw_lands mode t from l = left_lands mode t from.place from.at l (opened_of t from 0) (opened_leads t from 0)
