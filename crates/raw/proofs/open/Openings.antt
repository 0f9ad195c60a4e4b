-- One character of the opening, for each way through the code; and where a scan begins. Assumes nothing.
use Rattle.chars.specs.Takes.{char_taken}
use Rattle.std.specs.Prelude.{Err, None}
use Prim.Native.Nat.{ℕ, ◌+◌, ◌-◌}
use native.Mathlib.Omega.{arith}
use mathlib.Core.List.{List}
use mathlib.Core.Path.{◌≡◌}
use borrow.Author.Tests.{eq-eqb, ne_eqb}
use Rattle.position.specs.declared.Position.{Position}
use Rattle.position.specs.Place.{advanced}
use Rattle.chars.specs.Cursors.{cursor, eat_next_of}
use Rattle.chars.specs.Scan.{run_at}
use Rattle.chars.specs.declared.cursor.Cursor.{Cursor}
use Rattle.chars.proofs.Cursors.{Took, ate_took, ate_ended}
use Rattle.chars.proofs.Scans.{move_on, move_over, at_end_lem, one_on, is_over}
use Rattle.fault.specs.Faults.{part, unterminated_string, unexpected_input}
use Rattle.literal.specs.Answers.{nothing, refusal}
use Rattle.raw.specs.Opening.{counted, cut_off, opening_turn, opening_rule, opened_of}
use Rattle.raw.specs.Answer.{Opened, opened_as}

module _ (start : Position) (t : List ℕ) (k : ℕ) (from : Cursor) where
  -- what the opening leads to from here, with k hashes counted
  abbrev pub counting : Opened
  counting = run_at (opening_rule start) t from.at (counted k from.place)

  -- the text ends
  pub cut_off_lem : eat_next_of t from ≡ None → counting ≡ Err (refusal (unterminated_string start) from nothing)
  unfolding cut_off
  cut_off_lem e =
      move_over (opening_rule start) t from.at (counted k from.place) (at_end_lem (opening_rule start) t from.at (counted k from.place) (ate_ended t from e))

  module _ {c : ℕ} {next : Cursor} (e : eat_next_of t from ≡ char_taken c next) where
    abbrev took : Took t from.at (advanced from.place) c next
    took = ate_took t from e

    -- the quote
    pub quote_on : c ≡ 0x22 → counting ≡ opened_as k next
    unfolding opening_turn
    quote_on h =
        rw took.stands
        (move_over (opening_rule start) t from.at (counted k from.place) (is_over (opening_rule start) t from.at (counted k from.place) took.found (rw (eq-eqb c 0x22 h))))

    -- another hash
    pub hash_on : c ≡ 0x23 → counting ≡ run_at (opening_rule start) t next.at (counted (k + 1) next.place)
    unfolding opening_turn
    hash_on h =
        rw took.stands
        (move_on (opening_rule start) t from.at (counted k from.place) (one_on (opening_rule start) t from.at (counted k from.place) took.found
        (rw (ne_eqb c 0x22 (λ q. omega arith), eq-eqb c 0x23 h))))

    -- any other character
    pub no_quote : (c ≡ 0x22 → ⊥) → (c ≡ 0x23 → ⊥) → counting ≡ Err (refusal (unexpected_input start (part from.at (next.at - from.at))) (cursor next.at from.place) nothing)
    unfolding opening_turn
    no_quote m n =
        let w : from.at + took.width - from.at ≡ took.width = omega arith in
        rw (took.stands, w)
        (move_over (opening_rule start) t from.at (counted k from.place) (is_over (opening_rule start) t from.at (counted k from.place) took.found (rw (ne_eqb c 0x22 m, ne_eqb c 0x23 n))))

-- where a scan begins
module _ (t : List ℕ) (start : Cursor) where
  pub is_fresh : {k : ℕ} → k ≡ 0 → opened_of t start k ≡ counting start.place t 1 start
  unfolding opened_of
  is_fresh {k} z = rw (eq-eqb k 0 z)

  pub is_resumed : {k : ℕ} → (k ≡ 0 → ⊥) → opened_of t start k ≡ opened_as k start
  unfolding opened_of
  is_resumed {k} n = rw (ne_eqb k 0 n)
