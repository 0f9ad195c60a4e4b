-- Too short a memory for the row leaves both; else the scan is answered by its row.
use Rattle.c_scanners.proofs.literals.Rows.{too_short, in_full}
use Rattle.string.specs.Entry.{string_trace, scan_of}
use Rattle.c_scanners.specs.StringScans.{string_parsing, string_parsed}
use Rattle.c_scanners.proofs.strings.stew_parse_string_literal.Goals as goal

pub returns-then-answer-lt88 : goal.returns-then-answer-lt88
unfolding string_parsing string_parsed
returns-then-answer-lt88 c =
    rw (← c.given-place.ensures) (too_short (scan_of _ _ _ _ _ _) _ c.if-answer-lt88.true {e = scan_of _ _ _ _ _ _} c.parse_string_literal.ensures.value c.short_number.ensures (string_trace _ _ _ _) _)

pub returns : goal.returns
unfolding string_parsing string_parsed
returns c =
    rw (← c.given-place.ensures)
    (in_full (scan_of _ _ _ _ _ _) _ c.if-answer-lt88.false _ (string_trace _ _ _ _) c.parse_string_literal-scanned.ensures.value c.parse_string_literal-scanned.ensures.out_after c.answer.ensures.value c.answer.ensures.memory_after)
