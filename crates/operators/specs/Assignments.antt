-- The operator-assignment pairs: `is_op_assignment`, `get_base_op_from_assignment`, `has_op_assignment` and `convert_to_op_assignment` of `types/token.rs`.
use Rattle.std.specs.Prelude.{ℕ, Bool, List, [], ◌∷◌, eqb, None, Some}
use Rattle.basis.specs.Pick.{pick}
use Rattle.token.specs.Tokens as Token
use Rattle.token.specs.Tokens.{among_tokens}
use Rattle.token.specs.Lookups.{Lookup}

-- an assignment and its operator
pub record Pair : Type 0 where
  pub assignment : ℕ
  pub operator : ℕ

-- a pair, as a row of the list
infix 90 ◌⇄◌
abbrev pub ◌⇄◌ : ℕ → ℕ → Pair
a ⇄ o = record { assignment = a; operator = o }

-- the eleven pairs, in the order of the source
abbrev pub pairs : List Pair
pairs =
    Token.PlusAssign ⇄ Token.Plus
    ∷ Token.MinusAssign ⇄ Token.Minus
    ∷ Token.MultiplyAssign ⇄ Token.Multiply
    ∷ Token.DivideAssign ⇄ Token.Divide
    ∷ Token.LeftShiftAssign ⇄ Token.LeftShift
    ∷ Token.RightShiftAssign ⇄ Token.RightShift
    ∷ Token.ModuloAssign ⇄ Token.Modulo
    ∷ Token.PowerOfAssign ⇄ Token.PowerOf
    ∷ Token.AndAssign ⇄ Token.Ampersand
    ∷ Token.OrAssign ⇄ Token.Pipe
    ∷ Token.XOrAssign ⇄ Token.XOr
    ∷ []

-- the assignments of some pairs
abbrev pub assignments : List Pair → List ℕ
assignments [] = []
assignments (p ∷ ps) = p.assignment ∷ assignments ps

-- the operators of some pairs
abbrev pub operators : List Pair → List ℕ
operators [] = []
operators (p ∷ ps) = p.operator ∷ operators ps

-- the token is an assignment with an operator
unfoldable pub is_op_assignment : ℕ → Bool
is_op_assignment t = among_tokens (assignments pairs) t

-- the token is an operator that has an assignment
unfoldable pub has_op_assignment : ℕ → Bool
has_op_assignment t = among_tokens (operators pairs) t

-- the operator of an assignment, by the first pair that has it
unfoldable pub operator_in : List Pair → ℕ → Lookup
operator_in [] t = None
operator_in (p ∷ ps) t = pick (eqb t p.assignment) (Some p.operator) (operator_in ps t)

-- the assignment of an operator, by the first pair that has it
unfoldable pub assignment_in : List Pair → ℕ → Lookup
assignment_in [] t = None
assignment_in (p ∷ ps) t = pick (eqb t p.operator) (Some p.assignment) (assignment_in ps t)

-- a token's operator, where it is an assignment
unfoldable pub base_op_of : ℕ → Lookup
base_op_of t = operator_in pairs t

-- a token's assignment, where it is an operator that has one
unfoldable pub op_assignment_of : ℕ → Lookup
op_assignment_of t = assignment_in pairs t
