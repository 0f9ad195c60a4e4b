-- A line feed is one turn: proofs/scan/Passing.antt.
use native.Mathlib.Omega.{arith}
use mathlib.Core.Path.{refl, ap, ◌∙◌}
use Rattle.position.specs.Place.{lined}
use Rattle.utf8.proofs.Laws.{at_width}
use Rattle.raw.proofs.scan.Passing.{passes_line}
use Rattle.raw.proofs.scan.Body.pass_line.Goals as goal

pub overflow_add-at : goal.overflow_add-at
overflow_add-at c = omega (arith, (at_width _ _ c.requires.1).1, c.well_formed)

pub overflow_add-result : goal.overflow_add-result
overflow_add-result c = omega (arith, c.most.ensures.0, c.if-most-eq0.false)

pub returns : goal.returns
returns c = (
  omega arith,
  passes_line _ _ _ _ _ _ c.most.ensures.0 c.most.ensures.1 c.requires.1 (omega (arith, c.if-most-eq0.false))
      (c.lined-place.ensures ∙ ap lined c.advanced.ensures) c.or_else.ensures refl,
)
