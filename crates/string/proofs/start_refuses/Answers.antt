-- Each return is a law of proofs/Arguments.antt.
use Rattle.string.proofs.Arguments.{begins_line_lem, ordinary_start, no_quote_start, no_terminator_start, no_line}
use Rattle.string.proofs.start_refuses.Goals as goal

pub returns-then-not-is_on_line : goal.returns-then-not-is_on_line
returns-then-not-is_on_line c = search no_line

pub returns-then-is_beginning_of_line : goal.returns-then-is_beginning_of_line
returns-then-is_beginning_of_line c = search begins_line_lem

pub returns-else-is_beginning_of_line : goal.returns-else-is_beginning_of_line
returns-else-is_beginning_of_line c = search ordinary_start

pub returns-in-39 : goal.returns-in-39
returns-in-39 c = no_quote_start _ _ c.is_on_line.ensures c.if-not-is_on_line.false c.in-39.is

pub returns-in_default : goal.returns-in_default
returns-in_default c = let own = c.in_default in search no_terminator_start
