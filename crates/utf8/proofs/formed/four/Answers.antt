-- The bytes of the row, one by one.
use mathlib.Core.Path.{sym, ◌∙◌}
use Rattle.utf8.proofs.Widths.{fits_on, fits_not}
use Rattle.utf8.proofs.formed.four.Goals as goal
use Rattle.utf8.proofs.formed.four.Goals.{else-is_in-via-then-is_in+then-is_in-2+else-is_in-3, else-is_in-via-then-is_in+else-is_in-2, else-is_in-via-else-is_in}

pub returns-then-is_in-3 : goal.returns-then-is_in-3
returns-then-is_in-3 c =
    rw (
      fits_on _ _ 1 _ _ (sym c.is_in.ensures ∙ c.if-is_in.true),
      fits_on _ _ 2 _ _ (sym c.is_in-then-is_in.ensures ∙ c.if-is_in-2.true),
      sym c.is_in-then-is_in-2.ensures ∙ c.if-is_in-3.true,
    )

pub returns-else-is_in : goal.returns-else-is_in
returns-else-is_in c = elim c.else-is_in.branch [
  | else-is_in-via-then-is_in+then-is_in-2+else-is_in-3 w ↦
      rw (
        fits_on _ _ 1 _ _ (sym c.is_in.ensures ∙ w.if-is_in.true),
        fits_on _ _ 2 _ _ (sym w.is_in-then-is_in.ensures ∙ w.if-is_in-2.true),
        sym w.is_in-then-is_in-2.ensures ∙ w.if-is_in-3.false,
      )
  | else-is_in-via-then-is_in+else-is_in-2 w ↦
      rw (fits_on _ _ 1 _ _ (sym c.is_in.ensures ∙ w.if-is_in.true), fits_not _ _ 2 _ _ (sym w.is_in-then-is_in.ensures ∙ w.if-is_in-2.false))
  | else-is_in-via-else-is_in w ↦ rw (fits_not _ _ 1 _ _ (sym c.is_in.ensures ∙ w.if-is_in.false))
]
