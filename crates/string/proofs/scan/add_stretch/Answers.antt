-- Nothing, or what was passed, by its law: proofs/Leading.antt.
use Prim.Native.Nat.{◌≤◌}
use native.Mathlib.Omega.{arith}
use mathlib.Core.Path.{◌≡◌}
use Rattle.position.specs.Place.{start}
use Rattle.string_turn.proofs.take.Passing.{passes_low, passes_within}
use Rattle.string.proofs.scan.Units.{terminates}
use Rattle.string.proofs.scan.Leading.{stays, passes_on}
use Rattle.string.proofs.scan.add_stretch.Goals as goal
use Rattle.string.proofs.scan.add_stretch.Goals.{After-pass-stood}

-- what was passed
module _ (k : After-pass-stood) where
  settled : k.args.here.skip ≡ 0
  settled = k.if-here-ne0.false

  low : k.args.here.at ≤ k.pass-stood.result.at
  low = passes_low k.pass-stood.ensures.string_passes

pub returns-then-here-ne0 : goal.returns-then-here-ne0
returns-then-here-ne0 c start = stays _ _ _ _ _ _ _ c.requires.1

pub most-most-requires : goal.most-most-requires
most-most-requires c = c.requires.1

pub pass-stood-requires : goal.pass-stood-requires
pass-stood-requires c = (terminates c.requires.0).low

pub copy-requires : goal.copy-requires
copy-requires c = passes_within c.pass-stood.ensures.string_passes

pub overflow_sub-result : goal.overflow_sub-result
overflow_sub-result c = low (goal.at.overflow_sub-result c).After-pass-stood

pub returns : goal.returns
returns c place =
    rw (settled (goal.at.returns c).After-pass-stood) (passes_on _ _ _ _ c.requires.1 c.most-most.ensures.0 c.most-most.ensures.1 c.pass-stood.ensures.string_passes c.pass-stood.ensures.at_bound c.copy.ensures place)

pub overflow_add-result : goal.overflow_add-result
overflow_add-result c = omega (arith, (returns c start).within, c.well_formed)

pub shape_of-out : goal.shape_of-out
shape_of-out c = (returns c start).same
