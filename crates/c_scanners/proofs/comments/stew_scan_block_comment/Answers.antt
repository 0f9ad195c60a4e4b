-- Too short a memory is left; else the row of the scan is written to its front.
use mathlib.Core.Path.{◌∙◌}
use Rattle.numbers.proofs.Answers.{short_leaves}
use Rattle.c_answer.proofs.Short.{short_told, long_told}
use Rattle.c_scanners.proofs.comments.Rows.{row_long, row_is}
use Rattle.c_scanners.proofs.comments.stew_scan_block_comment.Goals as goal

pub returns-then-answer-lt32 : goal.returns-then-answer-lt32
returns-then-answer-lt32 c = let args = c.args in
    let is = row_is _ _ args.line args.column _ c.given-place.ensures c.scan_block_comment-scanned.ensures c.row_of-row.ensures.0 in record { value = c.short_number.ensures ∙ rw is (short_told 4 _ _ (row_long _ _ _ _ _) _ c.if-answer-lt32.true); answer_after = short_leaves 4 _ _ (row_long _ _ _ _ _) c.if-answer-lt32.true }

pub returns : goal.returns
returns c = let args = c.args in
    let is = row_is _ _ args.line args.column _ c.given-place.ensures c.scan_block_comment-scanned.ensures c.row_of-row.ensures.0 in record { value = rw is (long_told 4 _ _ (row_long _ _ _ _ _) _ c.if-answer-lt32.false); answer_after = rw (← is) c.write_row.ensures.out_after }
