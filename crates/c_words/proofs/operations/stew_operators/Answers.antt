-- Too short a memory is left; else the row is written to its front.
use Rattle.numbers.proofs.Answers.{short_fitted, short_leaves, long_fitted}
use Rattle.c_words.proofs.operations.Rows.{row_long}
use Rattle.c_words.proofs.operations.stew_operators.Goals as goal

pub returns-then-answer-lt72 : goal.returns-then-answer-lt72
returns-then-answer-lt72 c = record { value = short_fitted 9 _ _ (row_long _) c.if-answer-lt72.true; answer_after = short_leaves 9 _ _ (row_long _) c.if-answer-lt72.true }

pub returns : goal.returns
returns c = record { value = long_fitted 9 _ _ (row_long _) c.if-answer-lt72.false; answer_after = rw (← c.row_of.ensures) c.write_row.ensures.out_after }
