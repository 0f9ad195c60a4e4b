-- A character of the four, and what follows it: proofs/Passing.antt.
use Rattle.string_turn.specs.Passing.{feed}
use Rattle.string_turn.proofs.take.Passing.{is_lone, is_sign, is_slash}
use Rattle.string_turn.proofs.take.is_added.Goals as goal

pub returns-in-10 : goal.returns-in-10
returns-in-10 c h = rw c.in-10.is feed

pub returns-in-13 : goal.returns-in-13
returns-in-13 c h = is_lone c.in-13.is c.next_is.ensures h

pub returns-in-36 : goal.returns-in-36
returns-in-36 c h = is_sign c.in-36.is c.next_is-in-36.ensures h

pub returns-in-92 : goal.returns-in-92
returns-in-92 c h = is_slash c.in-92.is c.next_is-in-92.ensures h
