-- Each arm has the answer of the definition: one computed test over the numbers, as the compiler tests them.
use Prim.Native.Nat.{zero-le}
use mathlib.Core.Bool.{Bool, true, false}
use mathlib.Core.List.{List, [], ◌∷◌}
use Rattle.token.specs.Tokens.{among_tokens}
use Rattle.operators.specs.Assignments.{is_op_assignment}
use Rattle.token.proofs.Arms.{Run, run, OnRun, run_is, tests}
use Rattle.operators.proofs.assignments.is_op_assignment.Goals as goal

abbrev runs : List (Run Bool)
runs = run 0 70 false ∷ run 70 81 true ∷ run 81 256 false ∷ []

on-run : OnRun tests is_op_assignment [] runs
unfolding is_op_assignment among_tokens
on-run = run_is tests is_op_assignment [] runs tt

pub returns-in-70-to-80 : goal.returns-in-70-to-80
returns-in-70-to-80 c = search (on-run 1)

pub returns-in_default : goal.returns-in_default
returns-in_default c = search (on-run 0, zero-le)

pub returns-in_default-2 : goal.returns-in_default-2
returns-in_default-2 c = search (on-run 2)
