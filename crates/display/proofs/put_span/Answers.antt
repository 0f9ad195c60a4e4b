-- Each branch puts the words that a law has there.
use Rattle.std.proofs.lemmas.Grind.{common_steps}
use native.Mathlib.Omega.{arith}
use Rattle.basis.specs.Words.{word}
use Rattle.display.specs.Forms.{colon_of, same_line, apart}
use Rattle.display.proofs.Lines.{up_to_none, from_none, on_two_lines, on_one_line}
use Rattle.display.proofs.put_span.Goals as goal

pub returns-then-is_none : goal.returns-then-is_none
returns-then-is_none c =
    rw (up_to_none _ c.start-start.ensures c.end-end.ensures c.is_none.ensures c.if-is_none.true) c.put_debug.ensures.text

pub returns-then-is_none-2 : goal.returns-then-is_none-2
unfolding word
returns-then-is_none-2 c =
    rw (from_none _ c.start-start.ensures c.end-end.ensures c.is_none.ensures c.if-is_none.false c.is_none-else-is_none.ensures c.if-is_none-2.true)
    (grind (arith, common_steps))

pub returns-then-line_number : goal.returns-then-line_number
unfolding apart word
returns-then-line_number c =
    rw (on_two_lines _ c.start-start.ensures c.end-end.ensures c.is_none.ensures c.if-is_none.false c.is_none-else-is_none.ensures c.if-is_none-2.false c.line_number.ensures c.line_number-else-is_none-2.ensures c.if-line_number.true)
    (grind (arith, common_steps))

pub returns-else-line_number : goal.returns-else-line_number
unfolding same_line colon_of word
returns-else-line_number c =
    rw (on_one_line _ c.start-start.ensures c.end-end.ensures c.is_none.ensures c.if-is_none.false c.is_none-else-is_none.ensures c.if-is_none-2.false c.line_number.ensures c.line_number-else-is_none-2.ensures c.if-line_number.false)
    (grind (arith, common_steps))
