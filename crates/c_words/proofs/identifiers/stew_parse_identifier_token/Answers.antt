-- Too short a memory is left; else the row of the scan is written to its front.
use mathlib.Core.Path.{◌∙◌}
use Rattle.numbers.proofs.Answers.{short_leaves}
use Rattle.c_answer.proofs.Short.{short_told, long_told}
use Rattle.c_words.proofs.identifiers.Rows.{row_long, row_is}
use Rattle.c_words.proofs.identifiers.stew_parse_identifier_token.Goals as goal

pub returns-then-answer-lt64 : goal.returns-then-answer-lt64
returns-then-answer-lt64 c = let is = row_is _ _ _ _ _ c.given-place.ensures c.parse_identifier_token-scanned.ensures c.row_of-row.ensures.0 in record { value = c.short_number.ensures ∙ rw is (short_told 8 _ _ (row_long _ _ _ _ _) _ c.if-answer-lt64.true); answer_after = short_leaves 8 _ _ (row_long _ _ _ _ _) c.if-answer-lt64.true }

pub returns : goal.returns
returns c = let is = row_is _ _ _ _ _ c.given-place.ensures c.parse_identifier_token-scanned.ensures c.row_of-row.ensures.0 in record { value = rw is (long_told 8 _ _ (row_long _ _ _ _ _) _ c.if-answer-lt64.false); answer_after = rw (← is) c.write_row.ensures.out_after }
