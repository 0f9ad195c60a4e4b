-- Each arm has the answer of the definition: one computed test over the numbers, as the compiler tests them.
use Prim.Native.Nat.{zero-le}
use mathlib.Core.Bool.{Bool, true, false}
use mathlib.Core.List.{List, [], ◌∷◌}
use Rattle.token.specs.Tokens.{among_tokens}
use Rattle.operators.specs.Kinds.{standard_keywords, is_standard_keyword}
use Rattle.token.proofs.Arms.{Run, run, OnRun, run_is, tests}
use Rattle.operators.proofs.kinds.is_standard_keyword.Goals as goal

abbrev runs : List (Run Bool)
runs =
    run 0 37 false
    ∷ run 37 43 true
    ∷ run 43 44 false
    ∷ run 44 50 true
    ∷ run 50 63 false
    ∷ run 63 70 true
    ∷ run 70 81 false
    ∷ run 81 85 true
    ∷ run 85 256 false
    ∷ []

on-run : OnRun tests is_standard_keyword [] runs
unfolding is_standard_keyword standard_keywords among_tokens
on-run = run_is tests is_standard_keyword [] runs tt

pub returns-in-37-to-42 : goal.returns-in-37-to-42
returns-in-37-to-42 c = search (on-run 1)

pub returns-in-37-to-42-2 : goal.returns-in-37-to-42-2
returns-in-37-to-42-2 c = search (on-run 3)

pub returns-in-37-to-42-3 : goal.returns-in-37-to-42-3
returns-in-37-to-42-3 c = search (on-run 5)

pub returns-in-37-to-42-4 : goal.returns-in-37-to-42-4
returns-in-37-to-42-4 c = search (on-run 7)

pub returns-in_default : goal.returns-in_default
returns-in_default c = search (on-run 0, zero-le)

pub returns-in_default-2 : goal.returns-in_default-2
returns-in_default-2 c = search (on-run 2)

pub returns-in_default-3 : goal.returns-in_default-3
returns-in_default-3 c = search (on-run 4)

pub returns-in_default-4 : goal.returns-in_default-4
returns-in_default-4 c = search (on-run 6)

pub returns-in_default-5 : goal.returns-in_default-5
returns-in_default-5 c = search (on-run 8)
