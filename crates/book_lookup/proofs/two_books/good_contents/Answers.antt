-- A good book has contents. Assumes nothing.
use Rattle.book_lookup.proofs.Places.{bad_has, good_has}
use Rattle.book_lookup.proofs.two_books.good_contents.Goals as goal

pub returns-in_err-ok-clause-good : goal.returns-in_err-ok-clause-good
returns-in_err-ok-clause-good c = rw c.from_residual.ensures (bad_has _ _ c.check.ensures _ c.ok.ensures.value c.in_err-ok.was)

pub returns-clause-good : goal.returns-clause-good
returns-clause-good c = good_has _ _ c.check.ensures _ c.ok.ensures.value _ _ c.of.ensures.count c.in_ok-ok.was
