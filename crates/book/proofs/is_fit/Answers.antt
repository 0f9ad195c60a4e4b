-- One test for each condition. Assumes nothing.
use Rattle.book.proofs.contents.Parts.{row_size, row_flags}
use Rattle.book.proofs.Fits.{fit_word, unfit_word}
use Rattle.book.proofs.Plain.{is_plain}
use Rattle.book.proofs.is_fit.Goals as goal

pub returns-then-row-le3 : goal.returns-then-row-le3
returns-then-row-le3 c = let row = c.row-row.ensures.value in
    fit_word _ _ _ (row_size _ _ _ row) _ (row_flags _ _ _ row) c.if-row-le3.true _ _ c.text.ensures.result_value (is_plain _ _ c.is_ascii.ensures.cases)

pub returns-else-row-le3 : goal.returns-else-row-le3
returns-else-row-le3 c = let row = c.row-row.ensures.value in
    unfit_word _ _ _ (row_size _ _ _ row) _ (row_flags _ _ _ row) c.if-row-le3.either _ (cc)
