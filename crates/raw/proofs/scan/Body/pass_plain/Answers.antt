-- What was passed is a stretch, and a stretch leaves the answer as it is: proofs/scan/Passing.antt.
use Prim.Native.Nat.{◌+◌, ◌≤◌}
use native.Mathlib.Omega.{arith}
use mathlib.Core.Path.{refl, ap, ◌∙◌}
use Rattle.position.specs.Place.{or_else}
use Rattle.chars.proofs.Stretches.{stretch_low}
use Rattle.raw.proofs.scan.Passing.{passes_some}
use Rattle.raw.proofs.scan.Body.pass_plain.Goals as goal
use Rattle.raw.proofs.scan.Body.pass_plain.Goals.{After-pass-passed}

-- the call that passed
module _ (k : After-pass-passed) where
  low : k.args.s.here.at + k.pass-passed.result.count ≤ k.pass-passed.result.at
  low = stretch_low k.pass-passed.ensures.stretch_of

pub overflow_sub-result : goal.overflow_sub-result
overflow_sub-result c = omega (arith, low (goal.at.overflow_sub-result c).After-pass-passed)

pub overflow_add-result : goal.overflow_add-result
overflow_add-result c = omega (arith, c.pass-passed.ensures.at_bound, c.most.ensures.0, low (goal.at.overflow_add-result c).After-pass-passed)

pub returns : goal.returns
returns c =
    let l = low (goal.at.returns c).After-pass-passed in (
      omega (arith, l, c.if-passed-eq0.false),
      passes_some _ _ _ _ _ _ c.most.ensures.0 c.most.ensures.1 c.pass-passed.ensures.stretch_of c.pass-passed.ensures.at_bound c.if-passed-eq0.false
          c.advanced_by.ensures (c.or_else.ensures ∙ ap (or_else _) c.advanced.ensures) refl,
    )
