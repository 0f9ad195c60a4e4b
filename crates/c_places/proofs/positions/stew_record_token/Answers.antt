-- Too short a memory is left; else the row of what is recorded is written to its front.
use mathlib.Core.Path.{◌∙◌}
use Rattle.numbers.proofs.Answers.{short_leaves}
use Rattle.c_answer.proofs.Short.{short_told, long_told}
use Rattle.c_places.proofs.positions.Rows.{record_long, record_is}
use Rattle.c_places.proofs.positions.stew_record_token.Goals as goal

pub returns-then-answer-lt24 : goal.returns-then-answer-lt24
returns-then-answer-lt24 c = let args = c.args in
    let is = record_is _ _ _ args.line2 args.column2 _ _ c.given-place.ensures c.given.ensures c.given-2.ensures c.record_token.ensures c.recorded_row-row.ensures.0 in record { value = c.short_number.ensures ∙ rw is (short_told 3 _ _ (record_long _ _ _ _) _ c.if-answer-lt24.true); answer_after = short_leaves 3 _ _ (record_long _ _ _ _) c.if-answer-lt24.true }

pub returns : goal.returns
returns c = let args = c.args in
    let is = record_is _ _ _ args.line2 args.column2 _ _ c.given-place.ensures c.given.ensures c.given-2.ensures c.record_token.ensures c.recorded_row-row.ensures.0 in record { value = rw is (long_told 3 _ _ (record_long _ _ _ _) _ c.if-answer-lt24.false); answer_after = rw (← is) c.write_row.ensures.out_after }
