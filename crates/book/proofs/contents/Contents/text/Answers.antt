-- The part is cut at the book's end; a body that starts within the book lies where it starts. Assumes nothing.
use native.Mathlib.Omega.{arith}
use Rattle.book.proofs.contents.Parts.{row_start, row_size, own_part, lies}
use Rattle.book.proofs.contents.Contents.text.Goals as goal

pub returns-clause-result_value : goal.returns-clause-result_value
returns-clause-result_value c = own_part _ _ _ _ _ _ (row_start _ _ _ c.row-start.ensures.value) (row_size _ _ _ c.row-start.ensures.value) c.min-end.ensures c.min.ensures

pub returns-clause-ref_ptr_value : goal.returns-clause-ref_ptr_value
returns-clause-ref_ptr_value c = λ h. let s = row_start _ _ _ c.row-start.ensures.value in lies _ _ _ _ (omega (arith, s))
