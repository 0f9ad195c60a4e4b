-- Each arm has the answer of the definition: one computed test over the numbers, as the compiler tests them.
use Rattle.std.specs.Prelude.{None, Some}
use Prim.Native.Nat.{zero-le}
use mathlib.Core.List.{List, [], ◌∷◌}
use Rattle.token.specs.Tokens.{among_tokens}
use Rattle.token.specs.Lookups.{Lookup}
use Rattle.operators.specs.Assignments.{Pair, pairs, assignment_in, op_assignment_of}
use Rattle.token.proofs.Arms.{Arm, arm, Run, run, OnRun, run_is, lookups}
use Rattle.operators.proofs.assignments.convert_to_op_assignment.Goals as goal

abbrev arms_of : List Pair → List (Arm Lookup)
arms_of [] = []
arms_of (p ∷ ps) = arm (p.operator ∷ []) (Some p.assignment) ∷ arms_of ps

abbrev arms : List (Arm Lookup)
arms = arms_of pairs

abbrev runs : List (Run Lookup)
runs = run 0 256 None ∷ []

on-run : OnRun lookups op_assignment_of arms runs
unfolding op_assignment_of assignment_in among_tokens
on-run = run_is lookups op_assignment_of arms runs tt

pub returns-in_default : goal.returns-in_default
returns-in_default c = search (on-run 0, zero-le)
