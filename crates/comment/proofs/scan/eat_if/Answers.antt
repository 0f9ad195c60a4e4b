-- The character that is next is kept if it is the one asked for.
use borrow.Author.Rules.{rules}
use borrow.Author.Tests.{tests}
use Rattle.comment.proofs.scan.Turns.{eaten_if}
use Rattle.comment.proofs.scan.eat_if.Goals as goal

pub returns : goal.returns
returns c = eaten_if _ _ _ c.eat_next_and_advance.ensures c.filter.ensures (λ x b k. search (rules, tests))
