-- The flags of the word that the search found. Assumes nothing.
use mathlib.Core.Path.{refl, ◌∙◌}
use Rattle.book.proofs.contents.Parts.{row_flags}
use Rattle.book_lookup.proofs.Places.{says_none, says_nothing, says_flags}
use Rattle.book_lookup.proofs.lookup_in.Goals as goal

pub returns-in_err-contents : goal.returns-in_err-contents
returns-in_err-contents c = c.from_residual.ensures ∙ says_none _ _ c.in_err-contents.ensures.count

pub returns-in_err-k : goal.returns-in_err-k
returns-in_err-k c = c.from_residual-in_err-k.ensures ∙ says_nothing _ _ _ (rw c.in_ok-contents.ensures.book at c.in_err-k.ensures.value) refl

pub returns : goal.returns
returns c =
    let own = c.in_ok-contents.ensures.book in
    says_flags _ _ _ (rw own at c.in_ok-k.ensures.value) _ _ _ refl (row_flags _ _ _ (rw own at c.row.ensures.value)) c.answer.ensures
