-- In a good book the lookup with no check is the lookup. Assumes nothing.
use mathlib.Core.Path.{◌∙◌}
use Rattle.book_lookup.proofs.Places.{good_says, bad_says_nothing}
use Rattle.book_lookup.proofs.lookup.Goals as goal

pub returns-in_err-ok : goal.returns-in_err-ok
returns-in_err-ok c = c.from_residual.ensures ∙ bad_says_nothing _ _ _ c.check.ensures _ c.ok.ensures.value c.in_err-ok.was

pub returns : goal.returns
returns c = good_says _ _ _ c.check.ensures _ c.ok.ensures.value _ c.in_ok-ok.was c.lookup_in.ensures
