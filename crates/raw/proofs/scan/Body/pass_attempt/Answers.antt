-- All turns of an attempt to close that closes nothing at once: proofs/scan/Passing.antt.
use Prim.Native.Nat.{◌+◌, ◌≤◌}
use native.Mathlib.Omega.{arith}
use mathlib.Core.Path.{refl, ap, ◌∙◌}
use lib.ListN.{length}
use Rattle.position.specs.Place.{or_else}
use Rattle.utf8.proofs.Laws.{at_width}
use Rattle.raw.specs.Step.{LostAt}
use Rattle.raw.proofs.scan.Attempts.{hashes_within}
use Rattle.raw.proofs.scan.Passing.{passes_lost, lost_within, lost_some}
use Rattle.raw.proofs.scan.Body.pass_attempt.Goals as goal
use Rattle.raw.proofs.scan.Body.pass_attempt.Goals.{Start, In_ok-lost}

-- the quote and the hashes end within the text
module _ (b : Start) where
  quoted : b.args.s.here.at + 1 ≤ length b.args.self.text.now
  quoted = (at_width b.args.self.text.now b.args.s.here.at b.requires.2).1

  hashed : b.args.s.here.at + 1 + b.args.hashes ≤ length b.args.self.text.now
  hashed = hashes_within b.requires.3 quoted

-- what they are passed with
module _ (k : In_ok-lost) where
  lost : LostAt k.args.self.text.now k.args.hashes (k.args.s.here.at + 1 + k.args.hashes) k.in_ok-lost.lost
  lost = rw k.in_ok-lost.was at k.lost_at.ensures

pub overflow_add-at : goal.overflow_add-at
overflow_add-at c = omega (arith, quoted (goal.at.overflow_add-at c).Start, c.well_formed)

pub overflow_add-at-2 : goal.overflow_add-at-2
overflow_add-at-2 c = omega (arith, hashed (goal.at.overflow_add-at-2 c).Start, c.well_formed)

pub overflow_add-result : goal.overflow_add-result
overflow_add-result c = omega (arith, lost_within (lost (goal.at.overflow_add-result c).In_ok-lost), c.well_formed)

pub overflow_add-result-2 : goal.overflow_add-result-2
overflow_add-result-2 c = omega (arith, c.most.ensures.0, c.if-most-lost.false)

pub returns : goal.returns
returns c =
    let l = lost (goal.at.returns c).In_ok-lost in (
      omega (arith, lost_some l),
      passes_lost _ _ _ _ _ _ c.most.ensures.0 c.most.ensures.1 c.requires.2 c.requires.3 c.requires.1 l c.if-most-lost.false
          c.advanced_by.ensures (c.or_else.ensures ∙ ap (or_else _) c.advanced.ensures) refl,
    )
