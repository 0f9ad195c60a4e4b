-- Too short an answer leaves all as it was; else the literal is written, and its length.
use mathlib.Core.Path.{sym, ap, ◌∙◌}
use Rattle.lent.specs.Written.{written_number}
use Rattle.stew.specs.WriteAnswer.{written_length}
use Rattle.stew.proofs.writer.Ways.{short_returned, short_out, short_answer, left_out, number_returned, length_answered}
use Rattle.stew.proofs.writer.stew_raw_write.Goals as goal

pub returns-then-answer-lt4 : goal.returns-then-answer-lt4
returns-then-answer-lt4 c = record { value = short_returned _ _ _ c.if-answer-lt4.true c.short_number.ensures; out_after = short_out _ _ _ c.if-answer-lt4.true; answer_after = short_answer _ _ _ c.if-answer-lt4.true }

pub returns-in-Ok : goal.returns-in-Ok
returns-in-Ok c = let long = c.if-answer-lt4.false in record { value = number_returned _ _ _ long c.raw_write.ensures.value (sym (ap written_number c.in-Ok.is)); out_after = left_out _ _ _ long c.raw_write.ensures.out_after; answer_after = length_answered _ _ _ long c.raw_write.ensures.value _ c.put.ensures.out_after (sym (ap written_length c.in-Ok.is)) }

pub returns-in-Err : goal.returns-in-Err
returns-in-Err c = let long = c.if-answer-lt4.false in record { value = number_returned _ _ _ long c.raw_write.ensures.value (c.from.ensures ∙ c.number.ensures ∙ sym (ap written_number c.in-Err.is)); out_after = left_out _ _ _ long c.raw_write.ensures.out_after; answer_after = length_answered _ _ _ long c.raw_write.ensures.value _ c.put-in-Err.ensures.out_after (sym (ap written_length c.in-Err.is)) }
