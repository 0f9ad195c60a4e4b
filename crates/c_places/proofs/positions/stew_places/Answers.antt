-- Too short a memory is left; else the row is written to its front.
use Rattle.numbers.proofs.Answers.{short_fitted, short_leaves, long_fitted}
use Rattle.c_places.specs.Rows.{places_row}
use Rattle.c_places.proofs.positions.Rows.{places_long}
use Rattle.c_places.proofs.positions.stew_places.Goals as goal

pub returns-then-answer-lt40 : goal.returns-then-answer-lt40
returns-then-answer-lt40 c = record { value = short_fitted 5 _ _ (places_long _ _ _ _) c.if-answer-lt40.true; answer_after = short_leaves 5 _ _ (places_long _ _ _ _) c.if-answer-lt40.true }

pub returns : goal.returns
unfolding places_row
returns c = record { value = long_fitted 5 _ _ (places_long _ _ _ _) c.if-answer-lt40.false; answer_after = rw (← c.given-p.ensures, ← c.given-q.ensures, ← c.pair_row.ensures) c.write_row.ensures.out_after }
