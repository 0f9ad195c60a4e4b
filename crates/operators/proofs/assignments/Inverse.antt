-- The operator-assignment pairs invert each other: one computed test over the pairs, and the law that what is found is a pair. Assumes nothing.
use Rattle.std.specs.Prelude.{None, Some}
use Prim.Native.Nat.{ℕ}
use native.Mathlib.Omega.{arith}
use mathlib.Core.Bool.{Bool, true, false}
use mathlib.Core.Path.{◌≡◌, refl}
use mathlib.Core.List.{List, [], ◌∷◌}
use lib.Dec.{T, eqb}
use borrow.Author.Tests.{eqb-true}
use Rattle.basis.specs.Pick.{pick, both, either}
use Rattle.basis.proofs.Cases.{pick_cases, true_left, true_right}
use Rattle.token.specs.Tokens.{among_tokens}
use Rattle.token.specs.Lookups.{Lookup}
use Rattle.operators.specs.Assignments.{Pair, pairs, assignments, operators, is_op_assignment, has_op_assignment, operator_in, assignment_in, base_op_of, op_assignment_of}
use Rattle.token.proofs.Arms.{same_lookup, same_lookup_lem}

-- an assignment and an operator find each other
abbrev meet : ℕ → ℕ → Bool
meet a o = both (same_lookup (base_op_of a) (Some o)) (same_lookup (op_assignment_of o) (Some a))

abbrev all_meet : List Pair → Bool
all_meet [] = true
all_meet (p ∷ ps) = both (meet p.assignment p.operator) (all_meet ps)

checked : T (all_meet pairs)
unfolding base_op_of op_assignment_of operator_in assignment_in
checked = tt

never : (t : ℕ) → None ≡ Some t → ⊥
never t e = let z : ◌≡◌ {A = ℕ} 0 1 = cc in omega arith

module _ (a o : ℕ) where
  operator_meets : (ps : List Pair) → T (all_meet ps) → operator_in ps a ≡ Some o → T (meet a o)
  unfolding operator_in
  operator_meets [] h e = absurd (never o e)
  operator_meets (p ∷ ps) h e =
      pick_cases (λ (l : Lookup). l ≡ Some o → T (meet a o)) (eqb a p.assignment) (Some p.operator) (operator_in ps a)
      (λ z g. let u : p.operator ≡ o = cc in rw (eqb-true a p.assignment z, ← u) (true_left (meet p.assignment p.operator) (all_meet ps) h))
      (λ z g. operator_meets ps (true_right (meet p.assignment p.operator) (all_meet ps) h) g)
      e

  assignment_meets : (ps : List Pair) → T (all_meet ps) → assignment_in ps o ≡ Some a → T (meet a o)
  unfolding assignment_in
  assignment_meets [] h e = absurd (never a e)
  assignment_meets (p ∷ ps) h e =
      pick_cases (λ (l : Lookup). l ≡ Some a → T (meet a o)) (eqb o p.operator) (Some p.assignment) (assignment_in ps o)
      (λ z g. let u : p.assignment ≡ a = cc in rw (eqb-true o p.operator z, ← u) (true_left (meet p.assignment p.operator) (all_meet ps) h))
      (λ z g. assignment_meets ps (true_right (meet p.assignment p.operator) (all_meet ps) h) g)
      e

  base_meets : base_op_of a ≡ Some o → T (meet a o)
  unfolding base_op_of
  base_meets e = operator_meets pairs checked e

  op_meets : op_assignment_of o ≡ Some a → T (meet a o)
  unfolding op_assignment_of
  op_meets e = assignment_meets pairs checked e

  -- the operator of an assignment has that assignment, and the other way round
  pub base_inverts : base_op_of a ≡ Some o → op_assignment_of o ≡ Some a
  base_inverts e = same_lookup_lem (op_assignment_of o) (Some a) (true_right (same_lookup (base_op_of a) (Some o)) _ (base_meets e))

  pub assignment_inverts : op_assignment_of o ≡ Some a → base_op_of a ≡ Some o
  assignment_inverts e = same_lookup_lem (base_op_of a) (Some o) (true_left (same_lookup (base_op_of a) (Some o)) (same_lookup (op_assignment_of o) (Some a)) (op_meets e))

-- an assignment is a token that has an operator, and an operator with an assignment one that has an assignment
abbrev is_some : Lookup → Bool
is_some (Some t) = true
is_some None = false

module _ (t : ℕ) where
  in_assignments : (ps : List Pair) → among_tokens (assignments ps) t ≡ is_some (operator_in ps t)
  unfolding among_tokens operator_in
  in_assignments [] = refl
  in_assignments (p ∷ ps) = go (eqb t p.assignment) (in_assignments ps)
    where
      go : (x : Bool) → among_tokens (assignments ps) t ≡ is_some (operator_in ps t) → either x (among_tokens (assignments ps) t) ≡ is_some (pick x (Some p.operator) (operator_in ps t))
      go true h = refl
      go false h = h

  in_operators : (ps : List Pair) → among_tokens (operators ps) t ≡ is_some (assignment_in ps t)
  unfolding among_tokens assignment_in
  in_operators [] = refl
  in_operators (p ∷ ps) = go (eqb t p.operator) (in_operators ps)
    where
      go : (x : Bool) → among_tokens (operators ps) t ≡ is_some (assignment_in ps t) → either x (among_tokens (operators ps) t) ≡ is_some (pick x (Some p.assignment) (assignment_in ps t))
      go true h = refl
      go false h = h

  pub is_assignment : is_op_assignment t ≡ is_some (base_op_of t)
  unfolding is_op_assignment base_op_of
  is_assignment = in_assignments pairs

  pub has_assignment : has_op_assignment t ≡ is_some (op_assignment_of t)
  unfolding has_op_assignment op_assignment_of
  has_assignment = in_operators pairs
