-- Each number is what its call answers.
use Rattle.c_words.specs.OperatorRow.{operator_row}
use Rattle.c_words.proofs.operations.row_of.Goals as goal

pub returns : goal.returns
unfolding operator_row
returns c =
    rw (
      c.precedence.ensures,
      c.lookup_as_number.ensures,
      c.get_base_op_from_assignment.ensures,
      c.lookup_as_number-2.ensures,
      c.convert_to_op_assignment.ensures,
      c.is_bind_right.ensures,
      c.is_op_assignment.ensures,
      c.has_op_assignment.ensures,
      c.is_literal.ensures,
      c.is_standard_symbol.ensures,
      c.is_standard_keyword.ensures,
    )
