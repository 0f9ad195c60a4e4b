-- Each arm has the answer of the definition: one computed test over the numbers, as the compiler tests them.
use Prim.Native.Nat.{ℕ, zero-le}
use mathlib.Core.List.{List, [], ◌∷◌}
use Rattle.token.specs.Tokens as Token
use Rattle.token.specs.Tokens.{among_tokens}
use Rattle.operators.specs.Precedence.{levels, precedence_in, precedence_of}
use Rattle.token.proofs.Arms.{Arm, arm, OnArm, arm_is, Run, run, OnRun, run_is, numbers}
use Rattle.operators.proofs.precedence.precedence.Goals as goal

abbrev arms : List (Arm ℕ)
arms = arm (Token.DoubleQuestion ∷ []) 135 ∷ arm (Token.Plus ∷ Token.Minus ∷ []) 150 ∷ arm (Token.PowerOf ∷ []) 190 ∷ []

abbrev runs : List (Run ℕ)
runs =
    run 0 17 0
    ∷ run 17 20 180
    ∷ run 20 23 210
    ∷ run 23 33 0
    ∷ run 33 35 140
    ∷ run 35 49 0
    ∷ run 49 51 110
    ∷ run 51 55 130
    ∷ run 55 57 90
    ∷ run 57 58 0
    ∷ run 58 61 30
    ∷ run 61 63 60
    ∷ run 63 256 0
    ∷ []

on-arm : OnArm numbers precedence_of arms
unfolding precedence_of precedence_in levels among_tokens
on-arm = arm_is numbers precedence_of arms tt

on-run : OnRun numbers precedence_of arms runs
unfolding precedence_of precedence_in levels among_tokens
on-run = run_is numbers precedence_of arms runs tt

pub returns-in-31 : goal.returns-in-31
returns-in-31 c = search (on-arm 0)

pub returns-in-13 : goal.returns-in-13
returns-in-13 c = search (on-arm 1)

pub returns-in-20 : goal.returns-in-20
returns-in-20 c = search (on-arm 2)

pub returns-in-18 : goal.returns-in-18
returns-in-18 c = search (on-run 1)

pub returns-in-21 : goal.returns-in-21
returns-in-21 c = search (on-run 2)

pub returns-in-33 : goal.returns-in-33
returns-in-33 c = search (on-run 4)

pub returns-in-49 : goal.returns-in-49
returns-in-49 c = search (on-run 6)

pub returns-in-51 : goal.returns-in-51
returns-in-51 c = search (on-run 7)

pub returns-in-55 : goal.returns-in-55
returns-in-55 c = search (on-run 8)

pub returns-in-59 : goal.returns-in-59
returns-in-59 c = search (on-run 10)

pub returns-in-62 : goal.returns-in-62
returns-in-62 c = search (on-run 11)

pub returns-in_default : goal.returns-in_default
returns-in_default c = search (on-run 0, zero-le)

pub returns-in_default-2 : goal.returns-in_default-2
returns-in_default-2 c = search (on-run 3)

pub returns-in_default-3 : goal.returns-in_default-3
returns-in_default-3 c = search (on-run 5)

pub returns-in_default-4 : goal.returns-in_default-4
returns-in_default-4 c = search (on-run 9)

pub returns-in_default-5 : goal.returns-in_default-5
returns-in_default-5 c = search (on-run 12)
