-- What holds of every reading of a raw literal, proved by its turns; so where an accepted one ends. Assumes nothing.
use Rattle.utf8.specs.Looks.{char_found}
use Rattle.std.specs.Prelude.{Err, Ok}
use Prim.Native.Nat.{ℕ, ◌+◌, ◌≤◌}
use native.Mathlib.Omega.{arith}
use mathlib.Core.Bool.{true}
use mathlib.Core.List.{List, ◌∷◌}
use mathlib.Core.Path.{◌≡◌, refl, sym, ap, ◌∙◌}
use lib.Dec.{eqb, ltb}
use lib.ListN.{length}
use Rattle.basis.specs.Pick.{both}
use Rattle.basis.proofs.Cases.{pick_cases}
use Rattle.position.specs.Place.{none}
use Rattle.utf8.specs.Table.{ch, chars, chars_at, edge, look_at}
use Rattle.utf8.proofs.Laws.{at_width, chars_char, chars_end, by_chars}
use Rattle.utf8.proofs.Edges.{edge_step}
use Rattle.chars.specs.Scan.{Turn, on_turn, run, run_at}
use Rattle.chars.specs.declared.cursor.Cursor.{Cursor}
use Rattle.chars.proofs.Reaches as Reaches
use Rattle.fault.specs.Faults.{string_too_long, number}
use Rattle.literal.specs.Trace.{Trace, ends, fails, adds, checks, Yield, yields, final, good, bad}
use Rattle.literal.specs.declared.End as an
use Rattle.literal.specs.declared.Refusal.{Refusal}
use Rattle.classes.specs.Marks.{quote, hash}
use Rattle.raw.specs.Opening.{opened_of}
use Rattle.raw.specs.Answer.{Opened}
use Rattle.raw.proofs.open.Leads.{Leads, opened_leads}
use Rattle.raw.specs.Raw.{BodyState, body_state, at_end, body_turn, body_rule, body_of, behind_opening, read_of, Newlines}

-- what holds of a reading that ends or fails at its offset, of one that adds bytes and tests the limit if of the rest, and before a character if behind it, holds of every reading
module _
    (mode : Newlines)
    (t : List ℕ)
    (start : Cursor)
    (Q : ℕ → Trace → Type 0)
    (ended : (at : ℕ) (e : an.End) → e.cursor.at ≡ at → Q at (ends e))
    (failed : (at : ℕ) (f : Refusal) → number f.fault ≤ 6 → Q at (fails f))
    (added : (at : ℕ) (bs : List ℕ) (f : Refusal) (r : Trace) → f.fault ≡ string_too_long start.place → Q at r → Q at (adds bs (checks f r)))
    (before : (at c w : ℕ) (r : Trace) → look_at t at ≡ char_found c w → Q (at + w) r → Q at r) where
  module _ (k : ℕ) where
    module _ (at c w : ℕ) (rest : ℕ → BodyState → Trace) (h : (s : BodyState) → Q (at + w) (rest 0 s)) where
      abbrev Turned : Turn BodyState (List Yield) Trace → Type 0
      Turned x = Q (at + w) (on_turn x (λ n k s. yields n (rest k s)) (λ r. r))

      turned : (s : BodyState) → Turned (body_turn mode start.place k at (ch c w ∷ chars_at t (at + w)) s)
      unfolding body_turn yields
      turned s =
          pick_cases Turned (eqb c quote) _ _ (λ q. added (at + w) _ _ _ refl (h _)) (λ q.
          pick_cases Turned (both (ltb 0 s.held) (eqb c hash)) _ _
          (λ q. pick_cases Turned (eqb s.held k) _ _ (λ q. ended (at + w) _ refl) (λ q. added (at + w) _ _ _ refl (h _)))
          (λ q. added (at + w) _ _ _ refl (h _)))

    -- of a body
    inside : (at : ℕ) (s : BodyState) → Q at (run_at (body_rule mode start.place k) t at s)
    unfolding run run_at at_end
    inside =
        by_chars t (λ at. (s : BodyState) → Q at (run_at (body_rule mode start.place k) t at s))
        (λ at e s. rw (chars_end t at e) (ended at _ refl))
        (λ at c w e ih s. rw (chars_char t at e) (before at c w _ e (turned at c w (λ j r. run (body_rule mode start.place k) j (chars_at t (at + w)) (at + w) r) ih s)))

  -- and of what an opening leaves
  further : {a b : ℕ} (r : Trace) → Reaches.Reached t a b → Q b r → Q a r
  further r Reaches.there h = h
  further r (Reaches.past {a} {c} {w} {b} e p) h = before a c w r e (further r p h)

  left : (at : ℕ) (x : Opened) → Leads t at x → Q at (behind_opening mode t start.place x)
  unfolding body_of
  left at (Ok (k, from)) l = further _ l.1 (inside k from.at (body_state 0 from.place none))
  left at (Err f) l = failed at f (omega arith)

  pub every : (k : ℕ) → Q start.at (read_of mode t start k)
  unfolding read_of
  every k = left start.at (opened_of t start k) (opened_leads t start k)

-- an accepted literal ends at its start or behind it, within the text, and where a character begins if one does at its start
pub record Reached (t : List ℕ) (at end : ℕ) : Type 0 where
  pub forward : at ≤ end
  pub within : at ≤ length t → end ≤ length t
  pub edges : edge (chars t) at ≡ true → edge (chars t) end ≡ true

abbrev Ending : List ℕ → ℕ → Trace → Type 0
Ending t at r = (e : an.End) → final r ≡ good e → Reached t at e.cursor.at

same_end : {e f : an.End} → good e ≡ good f → e ≡ f
same_end h = cc

not_good {ℓ} : {A : Type ℓ} {f : Refusal} {e : an.End} → bad f ≡ good e → A
not_good h = absurd (let z : ◌≡◌ {A = ℕ} 0 1 = cc in omega arith)

module _ (t : List ℕ) where
  ends_here : (at : ℕ) (e : an.End) → e.cursor.at ≡ at → Ending t at (ends e)
  unfolding final
  ends_here at e q f h =
      let z : f.cursor.at ≡ at = ap (λ (x : an.End). x.cursor.at) (sym (same_end h)) ∙ q in
      rw z (record { forward = omega arith; within = λ l. l; edges = λ b. b })

  fails_here : (at : ℕ) (f : Refusal) → number f.fault ≤ 6 → Ending t at (fails f)
  unfolding final
  fails_here at f l e h = not_good h

  adds_more : (at : ℕ) (bs : List ℕ) (f : Refusal) (r : Trace) → Ending t at r → Ending t at (adds bs (checks f r))
  unfolding final
  adds_more at bs f r h = h

  one_before : (at c w : ℕ) (r : Trace) → look_at t at ≡ char_found c w → Ending t (at + w) r → Ending t at r
  one_before at c w r q h e g =
      let k = h e g in
      let w = at_width t at q in
      record { forward = omega arith; within = λ l. k.within w.1; edges = λ b. k.edges (edge_step t at b q) }

  pub read_reached : (mode : Newlines) (start : Cursor) (k : ℕ) (e : an.End) → final (read_of mode t start k) ≡ good e → Reached t start.at e.cursor.at
  read_reached mode start k = every mode t start (Ending t) ends_here fails_here (λ at bs f r q h. adds_more at bs f r h) one_before k
