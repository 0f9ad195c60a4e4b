-- Too short a memory is left; else the row is written to its front.
use Rattle.numbers.proofs.Answers.{short_fitted, short_leaves, long_fitted}
use Rattle.c_places.proofs.positions.Rows.{place_long}
use Rattle.c_places.proofs.positions.stew_place.Goals as goal

pub returns-then-answer-lt64 : goal.returns-then-answer-lt64
returns-then-answer-lt64 c = record { value = short_fitted 8 _ _ (place_long _ _) c.if-answer-lt64.true; answer_after = short_leaves 8 _ _ (place_long _ _) c.if-answer-lt64.true }

pub returns : goal.returns
returns c = record { value = long_fitted 8 _ _ (place_long _ _) c.if-answer-lt64.false; answer_after = rw (← c.place_row.ensures) c.write_row.ensures.out_after }
