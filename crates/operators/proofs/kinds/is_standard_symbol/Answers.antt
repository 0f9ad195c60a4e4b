-- Each arm has the answer of the definition: one computed test over the numbers, as the compiler tests them.
use Prim.Native.Nat.{zero-le}
use mathlib.Core.Bool.{Bool, true, false}
use mathlib.Core.List.{List, [], ◌∷◌}
use Rattle.token.specs.Tokens.{among_tokens}
use Rattle.operators.specs.Kinds.{standard_symbols, is_standard_symbol}
use Rattle.token.proofs.Arms.{Run, run, OnRun, run_is, tests}
use Rattle.operators.proofs.kinds.is_standard_symbol.Goals as goal

abbrev runs : List (Run Bool)
runs =
    run 0 6 false
    ∷ run 6 12 true
    ∷ run 12 13 false
    ∷ run 13 26 true
    ∷ run 26 28 false
    ∷ run 28 37 true
    ∷ run 37 51 false
    ∷ run 51 63 true
    ∷ run 63 70 false
    ∷ run 70 81 true
    ∷ run 81 256 false
    ∷ []

on-run : OnRun tests is_standard_symbol [] runs
unfolding is_standard_symbol standard_symbols among_tokens
on-run = run_is tests is_standard_symbol [] runs tt

pub returns-in-6-to-11-4 : goal.returns-in-6-to-11-4
returns-in-6-to-11-4 c = search (on-run 7)

pub returns-in-6-to-11-5 : goal.returns-in-6-to-11-5
returns-in-6-to-11-5 c = search (on-run 9)

pub returns-in-6-to-11 : goal.returns-in-6-to-11
returns-in-6-to-11 c = search (on-run 1)

pub returns-in-6-to-11-2 : goal.returns-in-6-to-11-2
returns-in-6-to-11-2 c = search (on-run 3)

pub returns-in-6-to-11-3 : goal.returns-in-6-to-11-3
returns-in-6-to-11-3 c = search (on-run 5)

pub returns-in_default : goal.returns-in_default
returns-in_default c = search (on-run 0, zero-le)

pub returns-in_default-2 : goal.returns-in_default-2
returns-in_default-2 c = search (on-run 2)

pub returns-in_default-3 : goal.returns-in_default-3
returns-in_default-3 c = search (on-run 4)

pub returns-in_default-4 : goal.returns-in_default-4
returns-in_default-4 c = search (on-run 6)

pub returns-in_default-5 : goal.returns-in_default-5
returns-in_default-5 c = search (on-run 8)

pub returns-in_default-6 : goal.returns-in_default-6
returns-in_default-6 c = search (on-run 10)
