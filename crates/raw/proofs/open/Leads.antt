-- What holds of every opening, proved by its turns. Assumes nothing.
use Rattle.utf8.specs.Looks.{char_found}
use Rattle.std.specs.Prelude.{Err, Ok}
use Prim.Native.Nat.{ℕ, ◌+◌, ◌≤◌}
use native.Mathlib.Omega.{arith}
use mathlib.Core.List.{List, ◌∷◌}
use mathlib.Core.Path.{◌≡◌}
use lib.Dec.{eqb}
use borrow.Author.Tests.{eqb-false}
use Rattle.basis.proofs.Cases.{pick_cases}
use Rattle.position.specs.declared.Position.{Position}
use Rattle.position.specs.Place.{advanced}
use Rattle.utf8.specs.Table.{ch, chars_at, look_at}
use Rattle.utf8.proofs.Laws.{chars_char, chars_end, by_chars}
use Rattle.chars.specs.Scan.{Turn, on_turn, run, run_at}
use Rattle.chars.specs.declared.cursor.Cursor.{Cursor}
use Rattle.chars.proofs.Reaches.{Reached, there, past}
use Rattle.fault.specs.Faults.{number}
use Rattle.classes.specs.Marks.{quote, hash}
use Rattle.raw.specs.Opening.{Counted, counted, cut_off, opening_turn, opening_rule, opened_of}
use Rattle.raw.specs.Answer.{Opened}

-- from an offset, it leads to a body that a hash at least closes and that begins behind whole characters, or to a refusal by a number up to 5
abbrev pub Leads : List ℕ → ℕ → Opened → Type 0
Leads t at (Ok (k, from)) = (1 ≤ k) × Reached t at from.at
Leads t at (Err f) = number f.fault ≤ 5

module _ (t : List ℕ) where
  -- a character goes before it
  before : (at c w : ℕ) (r : Opened) → look_at t at ≡ char_found c w → Leads t (at + w) r → Leads t at r
  before at c w (Ok (k, from)) e h = (h.0, past e h.1)
  before at c w (Err f) e h = h

  module _ (start : Position) where
    module _ (at c w : ℕ) (e : look_at t at ≡ char_found c w) (rest : ℕ → Counted → Opened) (h : (s : Counted) → 1 ≤ s.hashes → Leads t (at + w) (rest 0 s)) where
      abbrev Turned : Turn Counted (Unit {0}) Opened → Type 0
      Turned x = Leads t at (on_turn x (λ n k s. rest k s) (λ r. r))

      turned : (s : Counted) → 1 ≤ s.hashes → Turned (opening_turn start at (ch c w ∷ chars_at t (at + w)) s)
      unfolding opening_turn
      turned s l =
          let on = counted (s.hashes + 1) (advanced s.place) in
          pick_cases Turned (eqb c quote) _ _ (λ q. (l, past e there)) (λ q. pick_cases Turned (eqb c hash) _ _ (λ q. before at c w (rest 0 on) e (h on (omega arith))) (λ q. omega arith))

    every : (at : ℕ) (s : Counted) → 1 ≤ s.hashes → Leads t at (run_at (opening_rule start) t at s)
    unfolding run run_at cut_off
    every =
        by_chars t (λ at. (s : Counted) → 1 ≤ s.hashes → Leads t at (run_at (opening_rule start) t at s))
        (λ at e s l. rw (chars_end t at e) (omega arith))
        (λ at c w e ih s l. rw (chars_char t at e) (turned at c w e (λ k r. run (opening_rule start) k (chars_at t (at + w)) (at + w) r) ih s l))

  pub opened_leads : (start : Cursor) (k : ℕ) → Leads t start.at (opened_of t start k)
  unfolding opened_of
  opened_leads start k =
      pick_cases (Leads t start.at) (eqb k 0) _ _ (λ q. every start.place start.at (counted 1 start.place) (omega arith)) (λ q. (let n = eqb-false k 0 q in omega (arith, n), there))
