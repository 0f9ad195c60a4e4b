-- Demand 3 for callers of `run` and `stew_run`: what the memory lent to a call holds then; and of two calls on one script under one book, the second with a limit that is nowhere stricter and with no less memory, what the second repeats of the first. The proofs, from the two contracts, are in proofs/RunCalls.antt.
use Rattle.std.specs.Prelude.{ℕ, ◌*◌, ◌≤◌, List, ◌≡◌, length, take, drop, Err}
use Rattle.fault.specs.declared.Fault.{Fault}
use Rattle.fault.specs.Faults.{Own}
use Rattle.literal.specs.Limits.{Looser}
use Rattle.numbers.specs.Spell.{value}
use Rattle.run.specs.Run.{Called}
use Rattle.stew.specs.RunAnswer.{CCalled}

-- the second call's limit is nowhere stricter, and it is lent no less memory
pub record NoStricter (limit limit' : ℕ) (literals literals' entries entries' : List ℕ) : Type 0 where
  pub limits : Looser limit limit'
  pub more_bytes : length literals ≤ length literals'
  pub more_entries : length entries ≤ length entries'

-- ---- `run`
-- `Called` and `holds` stand in crate run: a call's answer, and what the memory lent for literal bytes and for entries holds then; and what that is where the run has left l
-- of two calls
pub record RepeatsCall (first second : Called) : Type 0 where
  -- "larger limits repeat all earlier tokens, same bytes and positions,": the first call's entries are the front of the second's memory, and its literal bytes too
  pub no_fewer : first.answer.listed ≤ second.answer.listed
  pub entries : take (5 * first.answer.listed) second.entries ≡ take (5 * first.answer.listed) first.entries
  pub no_less : first.answer.used ≤ second.answer.used
  pub literals : take first.answer.used second.literals ≡ take first.answer.used first.literals
  -- "and an ending not caused by a limit or room recurs whole.": the same answer, and so the same entries and the same bytes
  pub recurs : ((f : Fault) → first.answer.ending ≡ Err f → Own f) → second.answer ≡ first.answer

-- ---- `stew_run`
-- `CCalled` and `c_holds` stand in crate stew: the number returned, and what the three slices hold then; and what that is where the run has left l
-- the i-th of the numbers that stand in bytes, four little-endian bytes each
abbrev pub number_at : ℕ → List ℕ → ℕ
number_at i bytes = value (take 4 (drop (4 * i) bytes))

-- how many entries were listed and how many literal bytes used, as the answer's bytes tell it
abbrev pub listed_in : List ℕ → ℕ
listed_in answer = number_at 3 answer

abbrev pub used_in : List ℕ → ℕ
used_in answer = number_at 4 answer

-- of two calls, each with room for its answer
pub record RepeatsCCall (first second : CCalled) : Type 0 where
  -- "larger limits repeat all earlier tokens, same bytes and positions,"
  pub no_fewer : listed_in first.answer ≤ listed_in second.answer
  pub entries : take (20 * listed_in first.answer) second.entries ≡ take (20 * listed_in first.answer) first.entries
  pub no_less : used_in first.answer ≤ used_in second.answer
  pub literals : take (used_in first.answer) second.literals ≡ take (used_in first.answer) first.literals
  -- "and an ending not caused by a limit or room recurs whole.": where it is not 7, 9 or 10, the same number and the same answer
  pub recurs : (first.returned ≡ 7 → ⊥) → (first.returned ≡ 9 → ⊥) → (first.returned ≡ 10 → ⊥)
      → (second.returned ≡ first.returned) × (take 28 second.answer ≡ take 28 first.answer)
