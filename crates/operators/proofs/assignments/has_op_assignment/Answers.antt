-- Each arm has the answer of the definition: one computed test over the numbers, as the compiler tests them.
use Prim.Native.Nat.{zero-le}
use mathlib.Core.Bool.{Bool, true, false}
use mathlib.Core.List.{List, [], ◌∷◌}
use Rattle.token.specs.Tokens as Token
use Rattle.token.specs.Tokens.{among_tokens}
use Rattle.operators.specs.Assignments.{has_op_assignment}
use Rattle.token.proofs.Arms.{Arm, arm, OnArm, arm_is, Run, run, OnRun, run_is, tests}
use Rattle.operators.proofs.assignments.has_op_assignment.Goals as goal

abbrev arms : List (Arm Bool)
arms = arm (Token.Plus ∷ Token.Minus ∷ Token.Pipe ∷ []) true ∷ []

abbrev runs : List (Run Bool)
runs =
    run 0 17 false
    ∷ run 17 23 true
    ∷ run 23 60 false
    ∷ run 60 62 true
    ∷ run 62 256 false
    ∷ []

on-arm : OnArm tests has_op_assignment arms
unfolding has_op_assignment among_tokens
on-arm = arm_is tests has_op_assignment arms tt

on-run : OnRun tests has_op_assignment arms runs
unfolding has_op_assignment among_tokens
on-run = run_is tests has_op_assignment arms runs tt

pub returns-in_default : goal.returns-in_default
returns-in_default c = search (on-run 0, zero-le)

pub returns-in_default-2 : goal.returns-in_default-2
returns-in_default-2 c = search (on-run 2)

pub returns-in_default-3 : goal.returns-in_default-3
returns-in_default-3 c = search (on-run 4)

pub returns-in-13 : goal.returns-in-13
returns-in-13 c = search (on-arm 0)

pub returns-in-13-2 : goal.returns-in-13-2
returns-in-13-2 c = search (on-run 1)

pub returns-in-13-3 : goal.returns-in-13-3
returns-in-13-3 c = search (on-run 3)
