-- The bytes of the row, one by one.
use mathlib.Core.Path.{sym, ◌∙◌}
use Rattle.utf8.proofs.Widths.{fits_on, fits_not}
use Rattle.utf8.proofs.formed.three.Goals as goal
use Rattle.utf8.proofs.formed.three.Goals.{else-is_in-via-then-is_in+else-is_in-2, else-is_in-via-else-is_in}

pub returns-then-is_in-2 : goal.returns-then-is_in-2
returns-then-is_in-2 c =
    rw (fits_on _ _ 1 _ _ (sym c.is_in.ensures ∙ c.if-is_in.true), sym c.is_in-then-is_in.ensures ∙ c.if-is_in-2.true)

pub returns-else-is_in : goal.returns-else-is_in
returns-else-is_in c = elim c.else-is_in.branch [
  | else-is_in-via-then-is_in+else-is_in-2 w ↦
      rw (fits_on _ _ 1 _ _ (sym c.is_in.ensures ∙ w.if-is_in.true), sym w.is_in-then-is_in.ensures ∙ w.if-is_in-2.false)
  | else-is_in-via-else-is_in w ↦ rw (fits_not _ _ 1 _ _ (sym c.is_in.ensures ∙ w.if-is_in.false))
]
