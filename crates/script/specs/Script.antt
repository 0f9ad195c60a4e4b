-- A script's reading by the unlimited rules: document 01, "Run".
use Rattle.std.specs.Prelude.{ℕ, zero, suc, ◌-◌, ◌≤◌, List, [], ◌∷◌, ◌≡◌, length, drop}
use Rattle.basis.specs.Types.{Bytes, Text}
use Rattle.position.specs.Place.{none}
use Rattle.fault.specs.Faults.{still_open}
use Rattle.reading.specs.Reading.{Reading, halts}
use Rattle.script.specs.Rules.{Rules}
use Rattle.script.specs.declared.State.{State}
use Rattle.script.specs.States.{begun, Fine}
use Rattle.script.specs.Steps.{Step, on, last, noted, step_of}

-- what a step leads to
abbrev pub on_step : Step → (State → Reading) → Reading
on_step (on n s) next = noted n (next s)
on_step (last r) next = r

-- the reading, step by step, of a script of which k bytes are still to pass before the next one
unfoldable pub reading_from : Rules → Text → Bytes → ℕ → List ℕ → State → Reading
reading_from rules t book k [] s = on_step (step_of rules t book s) (λ s'. halts (still_open none))
reading_from rules t book zero (b ∷ bs) s = on_step (step_of rules t book s) (λ s'. reading_from rules t book (s'.cursor.at - suc s.cursor.at) bs s')
reading_from rules t book (suc k) (b ∷ bs) s = reading_from rules t book k bs s

-- the reading of a script from where a run stands
unfoldable pub script_from : Rules → Text → Bytes → State → Reading
script_from rules t book s = reading_from rules t book 0 (drop s.cursor.at t) s

-- the reading of a whole script, under a good book
unfoldable pub script_of : Rules → Text → Bytes → Reading
script_of rules t book = script_from rules t book begun

-- the reading is its first step and the reading from where that leads, at every place of a script: no reading comes to a step behind the last byte, and so none to the fault that `reading_from` has there
abbrev pub StepByStep : Type 0
StepByStep =
    (rules : Rules) (t book : List ℕ) (s : State)
    → Fine s
    → length t ≤ 16777216
    → s.cursor.at ≤ length t
    → script_from rules t book s ≡ on_step (step_of rules t book s) (λ s'. script_from rules t book s')
