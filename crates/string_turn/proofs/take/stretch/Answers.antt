-- Nothing is passed, or what was passed is a stretch: proofs/Passing.antt.
use native.Mathlib.Omega.{arith}
use Rattle.string_turn.specs.Passing.{none}
use Rattle.string_turn.proofs.take.Passing.{passed}
use Rattle.string_turn.proofs.take.stretch.Goals as goal

pub returns-then-passed-eq0 : goal.returns-then-passed-eq0
returns-then-passed-eq0 c = record { string_passes = none; at_bound = omega arith }

pub returns : goal.returns
returns c = record { string_passes = passed _ _ _ c.pass-passed.ensures.stretch_of c.if-passed-eq0.false c.advanced_by.ensures c.advanced.ensures c.or_else.ensures; at_bound = c.pass-passed.ensures.at_bound }
