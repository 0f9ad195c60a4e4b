-- Nothing, or the byte that was passed, by its law: proofs/Leading.antt.
use Prim.Native.Nat.{◌≤◌}
use native.Mathlib.Omega.{arith}
use mathlib.Core.Path.{◌≡◌}
use Rattle.position.specs.Place.{start}
use Rattle.string_turn.proofs.take.Passing.{passes_low, passes_within}
use Rattle.string.proofs.scan.Leading.{passes_on}
use Rattle.string.proofs.scan.add_byte.Goals as goal
use Rattle.string.proofs.scan.add_byte.Goals.{After-pass_byte-stood}

-- what was passed
module _ (k : After-pass_byte-stood) where
  settled : k.args.here.skip ≡ 0
  settled = k.if-here-ne0.false

  low : k.args.here.at ≤ k.pass_byte-stood.result.at
  low = passes_low k.pass_byte-stood.ensures.string_passes

pub most-requires : goal.most-requires
most-requires c = c.requires.1

pub copy-requires : goal.copy-requires
copy-requires c = passes_within c.pass_byte-stood.ensures.string_passes

pub overflow_sub-result : goal.overflow_sub-result
overflow_sub-result c = low (goal.at.overflow_sub-result c).After-pass_byte-stood

pub returns : goal.returns
returns c place =
    rw (settled (goal.at.returns c).After-pass_byte-stood) (passes_on _ _ _ _ c.requires.1 c.most.ensures.0 c.most.ensures.1 c.pass_byte-stood.ensures.string_passes (omega (arith, c.pass_byte-stood.ensures.at_bound, c.if-most-eq0.false)) c.copy.ensures place)

pub overflow_add-result : goal.overflow_add-result
overflow_add-result c = omega (arith, (returns c start).within, c.well_formed)

pub shape_of-out : goal.shape_of-out
shape_of-out c = (returns c start).same
