-- Each arm has the answer of the definition: one computed test over the numbers, as the compiler tests them.
use Prim.Native.Nat.{zero-le}
use mathlib.Core.Bool.{Bool, true, false}
use mathlib.Core.List.{List, [], ◌∷◌}
use Rattle.token.specs.Tokens as Token
use Rattle.token.specs.Tokens.{among_tokens}
use Rattle.operators.specs.Kinds.{not_literal, is_literal}
use Rattle.token.proofs.Arms.{Arm, arm, OnArm, arm_is, Run, run, OnRun, run_is, tests}
use Rattle.operators.proofs.kinds.is_literal.Goals as goal

abbrev arms : List (Arm Bool)
arms = arm (Token.UnprocessedRawChar ∷ []) true ∷ []

abbrev runs : List (Run Bool)
runs =
    run 0 6 false
    ∷ run 6 85 true
    ∷ run 85 256 false
    ∷ []

on-arm : OnArm tests is_literal arms
unfolding is_literal not_literal among_tokens
on-arm = arm_is tests is_literal arms tt

on-run : OnRun tests is_literal arms runs
unfolding is_literal not_literal among_tokens
on-run = run_is tests is_literal arms runs tt

pub returns-in-6-to-84 : goal.returns-in-6-to-84
returns-in-6-to-84 c = search (on-arm 0)

pub returns-in-6-to-84-2 : goal.returns-in-6-to-84-2
returns-in-6-to-84-2 c = search (on-run 1)

pub returns-in_default : goal.returns-in_default
returns-in_default c = search (on-run 0, zero-le)

pub returns-in_default-2 : goal.returns-in_default-2
returns-in_default-2 c = search (on-run 2)
