-- Too short a memory for the row leaves both; else the scan is answered by its row.
use Rattle.c_scanners.proofs.literals.Rows.{too_short, in_full}
use Rattle.raw.specs.Raw.{as_source}
use Rattle.raw.specs.Entries.{resume_trace, resume_of}
use Rattle.c_scanners.specs.RawScans.{raw_resuming, raw_resumed}
use Rattle.c_scanners.proofs.raws.stew_resume_raw_string_literal.Goals as goal

pub returns-then-answer-lt88 : goal.returns-then-answer-lt88
unfolding raw_resuming raw_resumed
returns-then-answer-lt88 c =
    rw (← c.given-place.ensures) (too_short (resume_of as_source _ _ _ _ _ _) _ c.if-answer-lt88.true {e = resume_of as_source _ _ _ _ _ _} c.resume_raw_string_literal.ensures.value c.short_number.ensures (resume_trace as_source _ _ _ _) _)

pub returns : goal.returns
unfolding raw_resuming raw_resumed
returns c =
    rw (← c.given-place.ensures)
    (in_full (resume_of as_source _ _ _ _ _ _) _ c.if-answer-lt88.false _ (resume_trace as_source _ _ _ _) c.resume_raw_string_literal-scanned.ensures.value c.resume_raw_string_literal-scanned.ensures.out_after c.answer.ensures.value c.answer.ensures.memory_after)
