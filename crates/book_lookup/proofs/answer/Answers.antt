-- a and b together only where a is. Assumes nothing.
use borrow.Author.Tests.{eq-eqb, ne_eqb}
use Rattle.book_lookup.specs.Lookup.{flags_answer, is_a, is_b}
use Rattle.book_lookup.proofs.answer.Goals as goal

pub returns-then-a : goal.returns-then-a
unfolding flags_answer is_a is_b
returns-then-a c = rw (eq-eqb _ _ c.if-a.true)

pub returns-else-a : goal.returns-else-a
unfolding flags_answer is_a is_b
returns-else-a c = rw (ne_eqb _ _ c.if-a.false)
