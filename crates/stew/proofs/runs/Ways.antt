-- The export, for each way out: too short an answer, or a run. Assumes nothing.
use Prim.Native.Nat.{ℕ, ◌≤◌, ◌<◌}
use mathlib.Core.List.{List}
use mathlib.Core.Path.{◌≡◌, refl, ap, ◌∙◌}
use lib.ListN.{length, get_or}
use borrow.Author.Tests.{lt-ltb, le-ltb}
use Rattle.std.specs.Prelude.{Err}
use Rattle.lex_error.specs.declared.LexError.{LexError}
use Rattle.lex_error.specs.Numbers.{number_of, no_refusal}
use Rattle.lent.specs.Written.{left_of}
use Rattle.lent.proofs.Writes.{written}
use Rattle.numbers.specs.Spell.{spelled}
use Rattle.numbers.proofs.Rows.{length_spelled}
use Rattle.reading.specs.Reading.{Left}
use Rattle.reading.specs.Told.{ending_number}
use Rattle.reading.specs.Endings.{Ending}
use Rattle.door.specs.RunDoor.{refuses_of}
use Rattle.run.specs.Run.{Called, called, holds}
use Rattle.run.specs.declared.Ran.{Ran}
use Rattle.run.specs.Bytes.{entry_bytes}
use Rattle.stew.specs.RunAnswer.{tells_of, tells, run_short, c_called, leaves, stew_run_of}

module _ (script book : List ℕ) where
  pub no_fault : refuses_of script book ≡ no_refusal → 9 ≡ run_short script book
  unfolding run_short
  no_fault z = rw z

  pub own_fault : {e : LexError} → refuses_of script book ≡ Err e → number_of e ≡ run_short script book
  unfolding run_short
  own_fault z = rw z

-- seven numbers, the first of them the number
seven : (e : Ending) (n m : ℕ) → length (spelled 4 (tells_of e n m)) ≡ 28
unfolding tells_of
seven e n m = length_spelled 4 (tells_of e n m)

first : (e : Ending) (n m : ℕ) → get_or (tells_of e n m) 0 0 ≡ ending_number e
unfolding tells_of
first e n m = refl

module _ (script book : List ℕ) (limit : ℕ) (ls es answer : List ℕ) where
  pub too_short : length answer < 28 → {r : ℕ} → r ≡ run_short script book → c_called r ls es answer ≡ stew_run_of script book limit ls es answer
  unfolding stew_run_of
  too_short h e = rw (lt-ltb (length answer) 28 h, e)

  -- the run's answer, as its row
  module _ (h : 28 ≤ length answer) {ran : Ran} {ls' es' : List ℕ} (told : called ran ls' es' ≡ holds entry_bytes (leaves script book limit ls es) ls es) {row : List ℕ} (is : row ≡ tells_of ran.ending ran.listed ran.used) where
    abbrev l : Left
    l = leaves script book limit ls es

    row_tells : row ≡ tells l
    row_tells = is ∙ ap (λ (x : Called). tells_of x.answer.ending x.answer.listed x.answer.used) told

    number : get_or row 0 0 ≡ ending_number l.ending
    number = ap (λ (xs : List ℕ). get_or xs 0 0) row_tells ∙ first _ _ _

    pub long_enough : {answer' : List ℕ} → answer' ≡ left_of (spelled 4 row) answer → c_called (get_or row 0 0) ls' es' answer' ≡ stew_run_of script book limit ls es answer
    unfolding stew_run_of
    long_enough e =
        let stored = e ∙ ap (λ (xs : List ℕ). left_of (spelled 4 xs) answer) row_tells ∙ written (spelled 4 (tells l)) answer (rw (seven _ _ _) h) in
        rw (le-ltb (length answer) 28 h, number, ap (λ (x : Called). x.literals) told, ap (λ (x : Called). x.entries) told, stored)
