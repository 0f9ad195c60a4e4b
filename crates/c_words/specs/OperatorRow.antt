-- What the source says of a token, as a row of nine numbers, for the C name.
use Rattle.std.specs.Prelude.{ℕ, List, [], ◌∷◌}
use Rattle.operators.specs.Assignments.{is_op_assignment, has_op_assignment, base_op_of, op_assignment_of}
use Rattle.operators.specs.Kinds.{is_literal, is_standard_symbol, is_standard_keyword}
use Rattle.numbers.specs.Answer.{flag}
use Rattle.c_words.specs.TokenNumbers.{lookup_as_number}
use Rattle.operators.specs.Precedence.{precedence_of, is_bind_right}

-- the precedence, the operator of an assignment, the assignment of an operator; the six tests
unfoldable pub operator_row : ℕ → List ℕ
operator_row t =
    precedence_of t
    ∷ lookup_as_number (base_op_of t)
    ∷ lookup_as_number (op_assignment_of t)
    ∷ flag (is_bind_right t)
    ∷ flag (is_op_assignment t)
    ∷ flag (has_op_assignment t)
    ∷ flag (is_literal t)
    ∷ flag (is_standard_symbol t)
    ∷ flag (is_standard_keyword t)
    ∷ []
